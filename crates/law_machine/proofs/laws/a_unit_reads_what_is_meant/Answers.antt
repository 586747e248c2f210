use Rattle.law_machine.proofs.Cells.{cells_are_meant}
use Rattle.law_machine.proofs.laws.a_unit_reads_what_is_meant.Goals as goal

pub returns : goal.returns
returns c = cells_are_meant
