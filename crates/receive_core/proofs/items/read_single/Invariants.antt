use Rattle.std.proofs.Common.{◌≡◌, [], ◌++◌, drop, take}
use Rattle.receive_core.specs.Checks.{single_checks}
use Rattle.receive_core.specs.Names.{own}
use Rattle.receive_core.specs.Reading.{faults_by_item}
use Rattle.receive_core.specs.Steps.{slot_of, slot_seen}
use Rattle.receive_core.proofs.items.read_single.Given as goal

abbrev pub invariant-loop-item : goal.invariant-loop-item
invariant-loop-item g l =
    let cells = g.T.FromMeta.cells in
    let checks = single_checks cells l.name in
    (slot_seen g.T.FromMeta.seen l.slot ≡ slot_of cells (own l.name (take l.item-index l.items)))
    × (l.item_faults ++ faults_by_item checks (take l.item-index l.items) (drop l.item-index l.items)
    ≡ l.initial.item_faults ++ faults_by_item checks [] l.items)
