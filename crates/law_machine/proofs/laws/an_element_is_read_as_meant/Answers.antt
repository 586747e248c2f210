use Rattle.law_machine.proofs.Elements.{element_is_meant}
use Rattle.law_machine.proofs.laws.an_element_is_read_as_meant.Goals as goal

pub returns : goal.returns
returns c = element_is_meant
