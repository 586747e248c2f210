use Rattle.std.proofs.Common.{◌≡◌, ◌++◌}
use Rattle.std.specs.Result.{result_map_both}
use Rattle.std.specs.Vec.Iter.{into_iter_items}
use Rattle.meta_nested.specs.Nested.{among}
use Rattle.meta_nested.proofs.nested.among.Given as goal

-- the items so far stand before those that are left
abbrev pub invariant-loop-it : goal.invariant-loop-it
invariant-loop-it l =
    (goal.iterator-loop-it).can_next l.it-iterator ×
    (goal.iterator-loop-it).is_finite l.it-iterator ×
    (among (into_iter_items l.initial.it-iterator) ≡ result_map_both (λ more. l.items ++ more) (λ place. place) (among (into_iter_items l.it-iterator)))
