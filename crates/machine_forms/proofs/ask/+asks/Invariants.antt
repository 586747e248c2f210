use Rattle.std.proofs.Common.{◌≡◌, ◌+◌, ◌*◌, ◌++◌, map, drop}
use Rattle.machine_forms.specs.Asks.{seen, all_asks, asks_of_arms}
use Rattle.machine_forms.proofs.ask.+asks.Given as goal

abbrev pub decreases-push_stmts : goal.decreases-push_stmts
decreases-push_stmts l = 5 * l.nesting + 4

abbrev pub decreases-push_stmt : goal.decreases-push_stmt
decreases-push_stmt l = 5 * l.nesting + 3

abbrev pub decreases-push_variants : goal.decreases-push_variants
decreases-push_variants l = 5 * l.nesting + 2

abbrev pub decreases-push_form : goal.decreases-push_form
decreases-push_form l = 5 * l.nesting + 1

abbrev pub decreases-push_inside : goal.decreases-push_inside
decreases-push_inside l = 5 * l.nesting

abbrev pub invariant-push_stmts-loop-stmt : goal.invariant-push_stmts-loop-stmt
invariant-push_stmts-loop-stmt l = map seen l.initial.asks ++ all_asks l.stmts ≡ map seen l.asks ++ all_asks (drop l.stmt-index l.stmts)

abbrev pub invariant-push_variants-loop-arm : goal.invariant-push_variants-loop-arm
invariant-push_variants-loop-arm l = map seen l.initial.asks ++ asks_of_arms l.arms ≡ map seen l.asks ++ asks_of_arms (drop l.arm-index l.arms)
