use Rattle.law_options.proofs.OneProgram.{program_is_one}
use Rattle.law_options.proofs.laws.a_text_has_one_program.Goals as goal

pub returns : goal.returns
returns c = program_is_one
