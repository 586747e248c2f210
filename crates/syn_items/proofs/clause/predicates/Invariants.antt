use Rattle.std.proofs.Common.{◌≡◌, ◌-◌}
use Rattle.syn_items.specs.Generics.{predicates, predicates_from}
use Rattle.syn_items.proofs.clause.predicates.Given as goal

abbrev pub invariant-loop-turn : goal.invariant-loop-turn
invariant-loop-turn l = predicates l.fn.tokens ≡ predicates_from (l._turn-end - l._turn) l.found l.tokens
