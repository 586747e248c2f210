use Rattle.std.proofs.Common.{◌≡◌, [], ◌++◌, drop, map, take}
use Rattle.receive_core.specs.Checks.{multiple_checks, values}
use Rattle.receive_core.specs.Names.{own}
use Rattle.receive_core.specs.Reading.{faults_by_item}
use Rattle.receive_core.proofs.items.read_multiple.Given as goal

abbrev pub invariant-loop-item : goal.invariant-loop-item
invariant-loop-item g l =
    let cells = g.T.FromMeta.cells in
    let checks = multiple_checks cells l.name in
    (map g.T.FromMeta.seen l.values ≡ values cells (own l.name (take l.item-index l.items)))
    × (l.item_faults ++ faults_by_item checks (take l.item-index l.items) (drop l.item-index l.items)
    ≡ l.initial.item_faults ++ faults_by_item checks [] l.items)
