use Rattle.std.proofs.Common.{◌≡◌, ◌++◌}
use Rattle.std.specs.Vec.Iter.{into_iter_items}
use Rattle.error_core.specs.ErrorView.{held}
use Rattle.receive_core.proofs.fields.push_all.Given as goal

abbrev pub invariant-loop-fault : goal.invariant-loop-fault
invariant-loop-fault l =
    (goal.iterator-loop-fault).can_next l.fault-iterator ×
    (goal.iterator-loop-fault).is_finite l.fault-iterator ×
    (into_iter_items l.initial.fault-iterator ≡ l.yielded ++ into_iter_items l.fault-iterator) ×
    (held l.errors ≡ held l.initial.errors ++ l.yielded)
