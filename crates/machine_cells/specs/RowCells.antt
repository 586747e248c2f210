-- The cells of a type, by its row.
use Rattle.std.specs.Prelude.{ℕ}
use Rattle.node_expr.specs.declared.ty.«Type».{«Type» as Type'}
use Rattle.util_core.specs.Cells.{Cells, no_cells}
use Rattle.util_core.specs.Rows.{unit_cells}
use Rattle.util_core.specs.Wrappers.{box_cells}
use Rattle.machine_rows.specs.declared.row.Row.{Row}
use Rattle.machine_rows.specs.declared.row.Row.TheFolds.{fold-Row}
use Rattle.machine_rows.specs.declared.row.Row.TheOpen.{Row-F}
use Rattle.machine_value.specs.declared.value.Value.{Value as Datum}
use Rattle.machine_cells.specs.Leaves.{leaf_cells}
use Rattle.util_core.specs.Shown.{shown_cells}
use Rattle.machine_cells.specs.Values.{unit}
use Rattle.machine_cells.specs.Wrapped.{given_cells, hash_map_cells, kept_cells, kept_meta_cells, optional_cells, original_cells, spanned_cells, tree_map_cells}

-- the cells of declarations by their numbers, and those of the host's types
module _ (declared : ℕ → Cells Datum) (host : Type' → Cells Datum) where
  -- a row whose type inside has these cells; a `Vec` that is not read as a whole is read item by item alone
  abbrev pub layer_cells : Row-F (Cells Datum) → Cells Datum
  layer_cells Row-F.Unit = shown_cells unit unit_cells
  layer_cells (Row-F.Leaf it) = leaf_cells it
  layer_cells (Row-F.Option inner) = optional_cells inner
  layer_cells (Row-F.Box inner) = box_cells inner
  layer_cells (Row-F.Result inner) = kept_cells inner
  layer_cells (Row-F.ResultMeta inner) = kept_meta_cells inner
  layer_cells (Row-F.Override inner) = given_cells inner
  layer_cells (Row-F.SpannedValue inner) = spanned_cells inner
  layer_cells (Row-F.WithOriginal inner) = original_cells inner
  layer_cells (Row-F.HashMap key inner) = hash_map_cells inner key
  layer_cells (Row-F.BTreeMap key inner) = tree_map_cells inner key
  layer_cells (Row-F.Vec inner) = no_cells
  layer_cells (Row-F.Declared number) = declared number
  layer_cells (Row-F.Host type) = host type

  -- the cells of a row
  abbrev pub row_cells : Row → Cells Datum
  row_cells = fold-Row (Cells Datum) layer_cells
