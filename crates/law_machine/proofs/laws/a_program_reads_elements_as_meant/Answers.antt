use Rattle.law_machine.proofs.ElementPrograms.{elements_are_meant}
use Rattle.law_machine.proofs.laws.a_program_reads_elements_as_meant.Goals as goal

pub returns : goal.returns
returns c = elements_are_meant
