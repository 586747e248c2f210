-- The types of the table that hold one type that is read on its own: their cells, by those of the type.
use Rattle.tok_types.specs.Ident.{ident_text}
use Rattle.node_make.specs.PathText.{path_text}
use Rattle.error_fault.specs.Outcome.{Value}
use Rattle.util_core.specs.Cells.{Cells}
use Rattle.util_core.specs.Keys.{ident_key, ident_same, path_same, text_key}
use Rattle.util_core.specs.Wrappers.{option_cells, result_cells, result_meta_cells}
use Rattle.util_core.specs.Override.{override_cells}
use Rattle.util_core.specs.Pairs.{value_and_meta_cells, value_and_span_cells}
use Rattle.std.specs.Str.{bytes_eq}
use Rattle.machine_rows.specs.declared.wrapper.HashKey.{HashKey}
use Rattle.machine_rows.specs.declared.wrapper.HashKey.TheVariants as hash
use Rattle.machine_rows.specs.declared.wrapper.TreeKey.{TreeKey}
use Rattle.machine_rows.specs.declared.wrapper.TreeKey.TheVariants as tree
use Rattle.machine_value.specs.declared.value.Value.{Value as Datum}
use Rattle.machine_value.specs.declared.value.Value.TheVariants as value
use Rattle.machine_cells.specs.Maps.{map_cells}
use Rattle.util_core.specs.Shown.{shown_cells}
use Rattle.machine_cells.specs.Values.{given, kept, kept_meta, spanned, with_original}

module _ (cells : Cells Datum) where
  -- `Option<T>`
  abbrev pub optional_cells : Cells Datum
  optional_cells = shown_cells value.Opt (option_cells cells)

  -- `Result<T>`
  abbrev pub kept_cells : Cells Datum
  kept_cells = shown_cells kept (result_cells cells)

  -- `Result<T, Meta>`
  abbrev pub kept_meta_cells : Cells Datum
  kept_meta_cells = shown_cells kept_meta (result_meta_cells cells)

  -- `Override<T>`
  abbrev pub given_cells : Cells Datum
  given_cells = shown_cells given (override_cells cells)

  -- `SpannedValue<T>`
  abbrev pub spanned_cells : Cells Datum
  spanned_cells = shown_cells (λ it. spanned it.0 it.1) (value_and_span_cells cells)

  -- `WithOriginal<T, Meta>`
  abbrev pub original_cells : Cells Datum
  original_cells = shown_cells (λ it. with_original it.0 it.1) (value_and_meta_cells cells)

  -- `HashMap`, by the type of its keys
  abbrev pub hash_map_cells : HashKey → Cells Datum
  hash_map_cells hash.String = map_cells bytes_eq (λ key. key) text_key cells
  hash_map_cells hash.Ident = map_cells ident_same ident_text ident_key cells
  hash_map_cells hash.Path = map_cells path_same path_text Value cells

  -- `BTreeMap`, by the type of its keys
  abbrev pub tree_map_cells : TreeKey → Cells Datum
  tree_map_cells tree.String = map_cells bytes_eq (λ key. key) text_key cells
  tree_map_cells tree.Ident = map_cells ident_same ident_text ident_key cells
