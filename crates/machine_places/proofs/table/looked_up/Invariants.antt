use Rattle.std.proofs.Common.{◌≡◌, map, drop}
use Rattle.machine_places.specs.Table.{looked_up}
use Rattle.machine_places.proofs.table.looked_up.Given as goal

abbrev pub invariant-loop-row : goal.invariant-loop-row
invariant-loop-row l =
    looked_up (map (λ row. (row.0.now, row.1, row.2, row.3)) (drop l.row-index l.rows)) l.before l.name l.arguments
    ≡ looked_up (map (λ row. (row.0.now, row.1, row.2, row.3)) l.rows) l.before l.name l.arguments
