-- Maps and sets of names as values.
use Rattle.std.specs.Prelude.{Bool, List, [], Some, map}
use Rattle.std.specs.List.{filter_map}
use Rattle.base_core.specs.declared.text.Text.{Text}
use Rattle.tok_types.specs.declared.span.Span.{Span}
use Rattle.tok_types.specs.declared.tree.TokenTree.{TokenTree}
use Rattle.node_expr.specs.declared.path.Path.{Path}
use Rattle.error_fault.specs.Outcome.{Outcome, Value, settle, value_of}
use Rattle.util_core.specs.NestedMeta.{NestedMeta}
use Rattle.util_core.specs.Cells.{Cells, no_cells}
use Rattle.util_core.specs.Maps.{entries_cells}
use Rattle.util_core.specs.Sets.{set_faults}
use Rattle.util_core.specs.Shown.{shown_cells}
use Rattle.machine_value.specs.declared.value.Value.{Value as Datum}
use Rattle.machine_value.specs.declared.value.Value.TheVariants as value
use Rattle.machine_cells.specs.Texts.{by_text}
use Rattle.machine_cells.specs.Values.{syntax}

-- the entries of a map under the texts of their keys
abbrev pub map_value : {K : Type 0} → (K → Text) → List (K × Datum) → Datum
map_value text entries = value.Map (by_text (map (λ entry. (text entry.0, entry.1)) entries))

-- the items of a list, each a key with what the type reads behind it
abbrev pub map_cells : {K : Type 0} → (K → K → Bool) → (K → Text) → (Path → Outcome K) → Cells Datum → Cells Datum
map_cells same text key_of cells = shown_cells (map_value text) (entries_cells same text key_of cells)

-- names in the order of their texts, each as its tokens
abbrev pub names_value : {A : Type 0} → (A → Text) → (A → List TokenTree) → List A → Datum
names_value text tokens names = value.List (map (λ entry. entry.1) (by_text (map (λ name. (text name, syntax tokens name)) names)))

-- the items of a list, each a name, and no name twice
abbrev pub names_cells : {A : Type 0} → (A → A → Bool) → (A → Text) → (A → Span) → (NestedMeta → Outcome A) → (A → List TokenTree) → Cells Datum
names_cells same text span_of read tokens =
    record no_cells {
      list = λ items. Some (settle (set_faults same text span_of read [] items)
          (Value (names_value text tokens (filter_map (λ item. value_of (read item)) items))));
    }
