use Rattle.std.proofs.Common.{◌≡◌, map, take}
use Rattle.machine_leaf.proofs.lists.list_value.Given as goal

abbrev pub invariant-loop-part : goal.invariant-loop-part
invariant-loop-part g l = l.values ≡ map g.T.Shown.shows (take l.part-index l.parts)
