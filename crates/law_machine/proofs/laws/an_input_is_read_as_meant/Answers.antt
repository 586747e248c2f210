use Rattle.law_machine.proofs.Units.{input_is_meaning}
use Rattle.law_machine.proofs.laws.an_input_is_read_as_meant.Goals as goal

pub returns : goal.returns
returns c = input_is_meaning
