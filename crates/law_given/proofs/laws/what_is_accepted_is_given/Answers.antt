use Rattle.law_given.proofs.Accepted.{accepted_is_given}
use Rattle.law_given.proofs.laws.what_is_accepted_is_given.Goals as goal

pub returns : goal.returns
returns c = accepted_is_given
