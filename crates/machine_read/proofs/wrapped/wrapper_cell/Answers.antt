use Rattle.machine_leaf.specs.Pairs.{value_and_meta_cells, value_and_span_cells}
use Rattle.machine_read.specs.Scopes.{cells_of, under}
use Rattle.machine_read.proofs.wrapped.wrapper_cell.Goals as goal

pub returns-in-SpannedValue : goal.returns-in-SpannedValue
returns-in-SpannedValue g c =
    let inside = c.args.inner.now in
    let cells = under g.H.Host.says g.D.Declared.earlier inside.scope.now cells_of inside.row.now in
    rw c.in-SpannedValue.is (c.as_value-in-SpannedValue.ensures (value_and_span_cells cells) c.args.call c.value_and_span_cell.ensures)

pub returns-in-WithOriginal : goal.returns-in-WithOriginal
returns-in-WithOriginal g c =
    let inside = c.args.inner.now in
    let cells = under g.H.Host.says g.D.Declared.earlier inside.scope.now cells_of inside.row.now in
    rw c.in-WithOriginal.is (c.as_value-in-WithOriginal.ensures (value_and_meta_cells cells) c.args.call c.value_and_meta_cell.ensures)
