use Rattle.law_given.proofs.Compiled.{compiled_is_given}
use Rattle.law_given.proofs.laws.what_is_compiled_is_given.Goals as goal

pub returns : goal.returns
returns c = compiled_is_given
