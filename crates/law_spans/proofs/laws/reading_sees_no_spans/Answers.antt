use Rattle.syn_grammar.specs.Grammar.{within}
use Rattle.law_spans.proofs.Paths.{path-blind}
use Rattle.law_spans.proofs.Within.{within-blind}
use Rattle.law_spans.proofs.laws.reading_sees_no_spans.Goals as goal

pub returns-clause-ty : goal.returns-clause-ty
returns-clause-ty c = λ depth. (within-blind depth).ty

pub returns-clause-expr : goal.returns-clause-expr
returns-clause-expr c = λ depth. (within-blind depth).expr

pub returns-clause-bounds : goal.returns-clause-bounds
returns-clause-bounds c = λ depth. (within-blind depth).bounds

pub returns-clause-path : goal.returns-clause-path
returns-clause-path c = λ depth. path-blind (within depth) (within-blind depth)
