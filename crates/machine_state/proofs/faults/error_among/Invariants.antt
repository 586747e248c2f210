use Rattle.std.proofs.Common.{◌≡◌, ◌++◌, map}
use Rattle.std.specs.Vec.Iter.{into_iter_items}
use Rattle.error_core.specs.ErrorView.{One}
use Rattle.machine_state.proofs.faults.error_among.Given as goal

abbrev pub invariant-loop-fault : goal.invariant-loop-fault
invariant-loop-fault l =
    (goal.iterator-loop-fault).can_next l.fault-iterator ×
    (goal.iterator-loop-fault).is_finite l.fault-iterator ×
    (into_iter_items l.initial.fault-iterator ≡ l.yielded ++ into_iter_items l.fault-iterator) ×
    (l.errors.items ≡ map One l.yielded)
