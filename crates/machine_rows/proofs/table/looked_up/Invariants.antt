use Rattle.std.proofs.Common.{◌≡◌, map, drop}
use Rattle.machine_rows.specs.Table.{looked_up}
use Rattle.machine_rows.proofs.table.looked_up.Given as goal

abbrev pub invariant-loop-row : goal.invariant-loop-row
invariant-loop-row l =
    looked_up (map (λ row. (row.0.now, row.1, row.2)) (drop l.row-index l.rows)) l.name
    ≡ looked_up (map (λ row. (row.0.now, row.1, row.2)) l.rows) l.name
