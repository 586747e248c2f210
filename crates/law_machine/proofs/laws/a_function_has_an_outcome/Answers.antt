use Rattle.law_machine.proofs.Left.{meta_funcs_have_outcomes}
use Rattle.law_machine.proofs.laws.a_function_has_an_outcome.Goals as goal

pub returns : goal.returns
returns c = meta_funcs_have_outcomes
