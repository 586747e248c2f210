use Rattle.syn_grammar.specs.Grammar.{within}
use Rattle.law_round_trip.proofs.Bounds.{bounds-back}
use Rattle.law_round_trip.proofs.Paths.{path-back}
use Rattle.law_round_trip.proofs.Within.{within-backs}
use Rattle.law_round_trip.proofs.laws.prefixes_are_read_back.Goals as goal

pub returns-clause-ty : goal.returns-clause-ty
returns-clause-ty c = λ depth allow_plus. (within-backs depth).ty allow_plus

pub returns-clause-expr : goal.returns-clause-expr
returns-clause-expr c = λ depth level. (within-backs depth).expr level

pub returns-clause-path : goal.returns-clause-path
returns-clause-path c = λ depth in_type. path-back (within depth) (within-backs depth) in_type

pub returns-clause-bounds : goal.returns-clause-bounds
returns-clause-bounds c = λ depth allow_plus span. bounds-back (within depth) (within-backs depth) allow_plus span
