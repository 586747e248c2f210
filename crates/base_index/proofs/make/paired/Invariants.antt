-- Each name so far with its place.
use Rattle.std.proofs.Common.{◌≡◌, take, map}
use Rattle.base_index.specs.Index.{indexed}
use Rattle.base_index.proofs.make.paired.Given as goal

abbrev pub invariant-loop-item : goal.invariant-loop-item
invariant-loop-item g l = (map (λ it. (it.0.now, it.1)) l.pairs.items ≡ indexed 0 (take l.item-index (map g.N.NameOf.name_of l.items))) × (l.at ≡ l.item-index)
