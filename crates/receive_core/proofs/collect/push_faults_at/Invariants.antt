use Rattle.std.proofs.Common.{◌≡◌, ◌++◌, flat_map, take}
use Rattle.receive_core.specs.Steps.{at_number}
use Rattle.receive_core.proofs.collect.push_faults_at.Given as goal

abbrev pub invariant-loop-by_item : goal.invariant-loop-by_item
invariant-loop-by_item l = l.faults ≡ l.initial.faults ++ flat_map (at_number l.number) (take l.by_item-index l.item_faults)
