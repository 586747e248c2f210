use Rattle.law_machine.proofs.Units.{list_is_meaning}
use Rattle.law_machine.proofs.laws.a_list_is_read_as_meant.Goals as goal

pub returns : goal.returns
returns c = list_is_meaning
