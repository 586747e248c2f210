-- What a row reads, by its outermost layer.
use Rattle.std.specs.Prelude.{◌≡◌, ℕ}
use Rattle.node_expr.specs.declared.ty.«Type».{«Type» as Type'}
use Rattle.meta_nested.specs.Cells.{Cells}
use Rattle.machine_leaf.specs.Rows.{unit_cells}
use Rattle.machine_value.specs.declared.value.Value.{Value as Datum}
use Rattle.machine_leaf.specs.Leaves.{leaf_cells}
use Rattle.machine_leaf.specs.RowCells.{row_cells}
use Rattle.machine_leaf.specs.Shown.{shown_cells}
use Rattle.machine_leaf.specs.Values.{unit}
use Rattle.machine_rows.specs.declared.row.Row.{Row}
use Rattle.machine_read.specs.declared.layer.Layer.{Layer}
use Rattle.machine_read.specs.declared.layer.Layer.TheVariants as layer
use Rattle.machine_read.specs.Wrapped.{wrapper_cells}

-- where declarations and types of the host have these cells, and rows inside those
abbrev pub layer_reads : (ℕ → Cells Datum) → (Type' → Cells Datum) → (Row → Cells Datum) → Layer → Cells Datum
layer_reads declared host inside layer.Unit = shown_cells unit unit_cells
layer_reads declared host inside (layer.Leaf it) = leaf_cells it.now
layer_reads declared host inside (layer.Around it inner) = wrapper_cells it (inside inner.now)
layer_reads declared host inside (layer.Declared number) = declared number
layer_reads declared host inside (layer.Host type) = host type.now

-- the row reads what its layer does, whatever declarations and types of the host read
abbrev pub IsLayerOf : Row → Layer → Type 0
IsLayerOf row layer =
    (declared : ℕ → Cells Datum) (host : Type' → Cells Datum)
    → layer_reads declared host (row_cells declared host) layer ≡ row_cells declared host row
