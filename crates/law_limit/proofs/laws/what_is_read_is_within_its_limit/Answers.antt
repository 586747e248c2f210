use Rattle.law_limit.proofs.Within.{bounds-fits, expr-fits, ty-fits}
use Rattle.law_limit.proofs.laws.what_is_read_is_within_its_limit.Goals as goal

pub returns-clause-ty : goal.returns-clause-ty
returns-clause-ty c = λ limit allow_plus input rest ty is. ty-fits input rest limit allow_plus ty is

pub returns-clause-expr : goal.returns-clause-expr
returns-clause-expr c = λ limit level input rest expr is. expr-fits input rest limit level expr is

pub returns-clause-bounds : goal.returns-clause-bounds
returns-clause-bounds c = λ limit input rest bounds is. bounds-fits input rest limit bounds is
