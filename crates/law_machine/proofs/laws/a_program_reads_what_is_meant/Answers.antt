use Rattle.law_machine.proofs.Programs.{program_is_meaning}
use Rattle.law_machine.proofs.laws.a_program_reads_what_is_meant.Goals as goal

pub returns : goal.returns
returns c = program_is_meaning
