use Rattle.syn_grammar.specs.Grammar.{within}
use Rattle.law_limit.proofs.Paths.{path-more}
use Rattle.law_limit.proofs.Within.{within-more}
use Rattle.law_limit.proofs.laws.a_larger_limit_reads_as_much.Goals as goal

pub returns-clause-ty : goal.returns-clause-ty
returns-clause-ty c = λ limit larger allow_plus more. (within-more limit larger more).ty allow_plus

pub returns-clause-expr : goal.returns-clause-expr
returns-clause-expr c = λ limit larger level more. (within-more limit larger more).expr level

pub returns-clause-bounds : goal.returns-clause-bounds
returns-clause-bounds c = λ limit larger more. (within-more limit larger more).bounds

pub returns-clause-path : goal.returns-clause-path
returns-clause-path c = λ limit larger in_type more. path-more (within limit) (within larger) (within-more limit larger more) in_type
