use Rattle.std.proofs.Common.{◌≡◌, ◌++◌, map}
use Rattle.std.specs.Vec.Iter.{into_iter_items}
use Rattle.meta_entries.specs.declared.entry.Entry.TheVariants as entry
use Rattle.meta_entries.proofs.walk.fault_entries.Given as goal

abbrev pub invariant-loop-fault : goal.invariant-loop-fault
invariant-loop-fault l =
    (goal.iterator-loop-fault).can_next l.fault-iterator ×
    (goal.iterator-loop-fault).is_finite l.fault-iterator ×
    (into_iter_items l.initial.fault-iterator ≡ l.yielded ++ into_iter_items l.fault-iterator) ×
    (l.entries ≡ map entry.Fault l.yielded)
