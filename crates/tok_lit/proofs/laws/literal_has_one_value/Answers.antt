use Rattle.std.proofs.Common.{sym, ◌∙◌}
use Rattle.tok_lit.proofs.Literals.{value_of-IsValue}
use Rattle.tok_lit.proofs.laws.literal_has_one_value.Goals as goal

pub returns : goal.returns
returns c = λ text a b h k. sym (value_of-IsValue text a h) ∙ value_of-IsValue text b k
