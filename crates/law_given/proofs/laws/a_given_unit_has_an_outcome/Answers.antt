use Rattle.law_given.proofs.Runs.{given_has_outcome}
use Rattle.law_given.proofs.laws.a_given_unit_has_an_outcome.Goals as goal

pub returns : goal.returns
returns c = given_has_outcome
