use Rattle.law_accepted.proofs.Accepted.{accepted_is_sound}
use Rattle.law_accepted.proofs.what_is_accepted_can_be_run.Goals as goal

pub returns : goal.returns
returns c = accepted_is_sound
