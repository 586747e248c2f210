use Rattle.std.proofs.Common.{◌≡◌, ◌+◌, ◌-◌, List, []}
use Rattle.syn_grammar.specs.Input.{◌<$>◌, items_from}
use Rattle.syn_grammar.specs.Patterns.{pattern}
use Rattle.syn_lists.proofs.patterns.+patterns.Given as goal

abbrev pub decreases-pattern : goal.decreases-pattern
decreases-pattern l = l.limit + l.limit

abbrev pub decreases-patterns : goal.decreases-patterns
decreases-patterns l = l.limit + l.limit + 1

-- of what was found nothing is kept
abbrev pub invariant-patterns-loop-turn : goal.invariant-patterns-loop-turn
invariant-patterns-loop-turn l = (found : List (Unit {0}))
    × (((λ all. tt {0}) <$> items_from (pattern l.limit) l._turn-end []) l.fn.tokens ≡ ((λ all. tt {0}) <$> items_from (pattern l.limit) (l._turn-end - l._turn) found) l.tokens)
