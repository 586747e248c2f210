use Rattle.law_machine.proofs.Left.{inputs_have_outcomes}
use Rattle.law_machine.proofs.laws.an_input_has_an_outcome.Goals as goal

pub returns : goal.returns
returns c = inputs_have_outcomes
