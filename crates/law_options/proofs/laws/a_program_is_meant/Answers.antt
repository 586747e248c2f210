use Rattle.law_options.proofs.Programs.{program_is_meant}
use Rattle.law_options.proofs.laws.a_program_is_meant.Goals as goal

pub returns : goal.returns
returns c = program_is_meant
