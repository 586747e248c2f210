use Rattle.std.proofs.Common.{◌≡◌, filter, take}
use Rattle.receive_core.specs.Names.{is_unclaimed}
use Rattle.receive_core.proofs.items.unclaimed.Given as goal

abbrev pub invariant-loop-item : goal.invariant-loop-item
invariant-loop-item l = l.rest ≡ filter (is_unclaimed l.names) (take l.item-index l.items)
