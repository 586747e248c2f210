use Rattle.std.proofs.Common.{◌≡◌, ◌++◌, map}
use Rattle.std.specs.Vec.Iter.{into_iter_items}
use Rattle.meta_entries.specs.declared.entry.Entry.TheVariants as entry
use Rattle.meta_entries.proofs.walk.item_entries.Given as goal

abbrev pub invariant-loop-item : goal.invariant-loop-item
invariant-loop-item l =
    (goal.iterator-loop-item).can_next l.item-iterator ×
    (goal.iterator-loop-item).is_finite l.item-iterator ×
    (into_iter_items l.initial.item-iterator ≡ l.yielded ++ into_iter_items l.item-iterator) ×
    (l.entries ≡ map entry.Item l.yielded)
