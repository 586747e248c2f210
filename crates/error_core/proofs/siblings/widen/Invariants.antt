use Rattle.std.proofs.Common.{◌≡◌, ◌++◌}
use Rattle.std.specs.Vec.Iter.{into_iter_items}
use Rattle.error_core.specs.Wider.{widen}
use Rattle.error_core.proofs.siblings.widen.Given as goal

abbrev pub invariant-loop-node : goal.invariant-loop-node
invariant-loop-node l =
    (goal.iterator-loop-node).can_next l.node-iterator ×
    (goal.iterator-loop-node).is_finite l.node-iterator ×
    (into_iter_items l.initial.node-iterator ≡ l.yielded ++ into_iter_items l.node-iterator) ×
    (l.wider ++ widen l.alts.keys l.left (into_iter_items l.node-iterator) ≡ widen l.alts.keys 0 (into_iter_items l.initial.node-iterator))
