use Rattle.syn_grammar.specs.Grammar.{within}
use Rattle.law_prefix.proofs.Kept.{head-front}
use Rattle.law_prefix.proofs.Paths.{path-front}
use Rattle.law_prefix.proofs.Within.{front-of, within-fronts}
use Rattle.law_prefix.proofs.laws.prefixes_are_read_again.Goals as goal

pub returns-clause-ty : goal.returns-clause-ty
returns-clause-ty c = λ depth allow_plus. front-of ((within-fronts depth).ty allow_plus)

pub returns-clause-expr : goal.returns-clause-expr
returns-clause-expr c = λ depth level. front-of ((within-fronts depth).expr level)

pub returns-clause-path : goal.returns-clause-path
returns-clause-path c = λ depth in_type. front-of (path-front (within depth) (within-fronts depth) in_type)

pub returns-clause-closure_head : goal.returns-clause-closure_head
returns-clause-closure_head c = λ depth. head-front (within depth) (within-fronts depth)
