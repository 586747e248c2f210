use Rattle.std.proofs.Common.{◌≡◌, ◌++◌}
use Rattle.std.specs.Vec.Iter.{into_iter_items}
use Rattle.error_core.specs.Split.{trees, IsForest, IsPart}
use Rattle.error_core.proofs.iter.split.Given as goal

abbrev pub invariant-loop-node : goal.invariant-loop-node
invariant-loop-node l =
    (goal.iterator-loop-node).can_next l.node-iterator ×
    (goal.iterator-loop-node).is_finite l.node-iterator ×
    (into_iter_items l.initial.node-iterator ≡ l.yielded ++ into_iter_items l.node-iterator) ×
    (l.errors.items ++ trees (l.grown ++ into_iter_items l.node-iterator) ≡ trees (into_iter_items l.initial.node-iterator)) ×
    IsForest (l.grown ++ into_iter_items l.node-iterator) ×
    IsPart l.grown
