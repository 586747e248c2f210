use Rattle.std.proofs.Common.{◌≡◌, ◌++◌}
use Rattle.std.specs.Vec.Iter.{into_iter_items}
use Rattle.error_core.specs.Preorder.{all_nodes}
use Rattle.error_core.proofs.error.joined_nodes.Given as goal

abbrev pub invariant-loop-error : goal.invariant-loop-error
invariant-loop-error l =
    (goal.iterator-loop-error).can_next l.error-iterator ×
    (goal.iterator-loop-error).is_finite l.error-iterator ×
    (into_iter_items l.initial.error-iterator ≡ l.yielded ++ into_iter_items l.error-iterator) ×
    (l.nodes ≡ all_nodes l.yielded)
