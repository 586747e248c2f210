use Rattle.std.proofs.Common.{refl}
use Rattle.machine_cells.specs.Values.{unit}
use Rattle.machine_leaf.proofs.table.unit_cell.Goals as goal

pub returns : goal.returns
returns c = c.shown_cell.ensures unit (λ it. refl)
