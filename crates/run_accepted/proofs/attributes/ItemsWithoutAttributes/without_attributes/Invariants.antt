use Rattle.std.proofs.Common.{◌≡◌, ◌++◌, drop, map}
use Rattle.run_accepted.proofs.attributes.ItemsWithoutAttributes.without_attributes.Given as goal

abbrev pub invariant-loop-item : goal.invariant-loop-item
invariant-loop-item g l =
    l.copies ++ map g.T.WithoutAttributes.without (drop l.item-index l.item-items) ≡ map g.T.WithoutAttributes.without l.item-items
