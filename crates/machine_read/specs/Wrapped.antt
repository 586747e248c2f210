-- The cells of a row that holds one row, by those of the row inside.
use Rattle.meta_nested.specs.Cells.{Cells, no_cells}
use Rattle.machine_value.specs.declared.value.Value.{Value as Datum}
use Rattle.machine_leaf.specs.Wrapped.{given_cells, hash_map_cells, kept_cells, kept_meta_cells, optional_cells, original_cells, spanned_cells, tree_map_cells}
use Rattle.machine_leaf.specs.Wrappers.{box_cells}
use Rattle.machine_rows.specs.declared.wrapper.Wrapper.{Wrapper}
use Rattle.machine_rows.specs.declared.wrapper.Wrapper.TheVariants as wrapper

-- by the name of the type
abbrev pub wrapper_cells : Wrapper → Cells Datum → Cells Datum
wrapper_cells wrapper.Option inner = optional_cells inner
wrapper_cells wrapper.Box inner = box_cells inner
wrapper_cells wrapper.Result inner = kept_cells inner
wrapper_cells wrapper.ResultMeta inner = kept_meta_cells inner
wrapper_cells wrapper.Override inner = given_cells inner
wrapper_cells wrapper.SpannedValue inner = spanned_cells inner
wrapper_cells wrapper.WithOriginal inner = original_cells inner
wrapper_cells (wrapper.HashMap key) inner = hash_map_cells inner key
wrapper_cells (wrapper.BTreeMap key) inner = tree_map_cells inner key
wrapper_cells wrapper.Vec inner = no_cells
