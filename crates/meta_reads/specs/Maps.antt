-- What a map reads from a list: an entry an item, and each key once.
use Rattle.std.specs.Prelude.{Bool, if◌then◌else◌, List, [], ◌∷◌, ◌++◌, flat_map, map, Option, Some, None, codes}
use Rattle.std.specs.List.{fold, list_any}
use Rattle.std.specs.Ordering.{bool_cmp, nat_cmp, ordering_then}
use Rattle.std.specs.Cmp.Lexicographic.{slice_cmp}
use Rattle.std.specs.declared.cmp.Ordering.{Ordering}
use Rattle.std.specs.BTreeMap.{insert_entry}
use Rattle.base_core.specs.declared.text.Text.{Text}
use Rattle.tok_types.specs.declared.ident.Ident.{Ident}
use Rattle.tok_types.specs.declared.span.Span.{Span}
use Rattle.node_core.specs.Meta.{path_of_meta}
use Rattle.node_expr.specs.declared.path.Path.{Path}
use Rattle.node_make.specs.PathText.{path_text}
use Rattle.node_span.specs.Spanned.{path_span}
use Rattle.error_fault.specs.Fault.{plain, at_span}
use Rattle.error_fault.specs.Outcome.{Outcome, Value, Faults, faults_of, settle, under}
use Rattle.error_fault.specs.declared.fault.Fault.{Fault}
use Rattle.error_fault.specs.declared.kind.FaultKind.TheVariants.{DuplicateField, UnexpectedFormat}
use Rattle.meta_nested.specs.declared.nested.NestedMeta.{NestedMeta}
use Rattle.meta_nested.specs.declared.nested.NestedMeta.TheVariants as nested
use Rattle.meta_nested.specs.Cells.{Cells, no_cells}
use Rattle.meta_nested.specs.Dispatch.{from_meta, from_invalid_expr}
use Rattle.meta_reads.specs.Shown.{shown_cells}

-- a path, and what is read behind it, whose faults stand in the field of that name
abbrev pub pair : {A : Type 0} → Path → Outcome A → Option (Path × Outcome A)
pair path value = Some (path, under (path_text path) value)

-- the path of an item and what the type reads behind it; a literal has none
abbrev pub pair_in : {A : Type 0} → Cells A → NestedMeta → Option (Path × Outcome A)
pair_in cells (nested.Meta it) = pair (path_of_meta it) (from_meta cells it)
pair_in cells (nested.Lit it) = None
pair_in cells (nested.NameValueInvalidExpr it) = pair it.path (from_invalid_expr cells it)

-- the keys, and one more where it is there
abbrev pub with_key : {K : Type 0} → List K → Outcome K → List K
with_key keys (Value key) = key ∷ keys
with_key keys (Faults fault more) = keys

-- the keys up to an item, also where its value fails
abbrev pub keys_with : {K A : Type 0} → (Path → Outcome K) → List K → Option (Path × Outcome A) → List K
keys_with key_of before None = before
keys_with key_of before (Some item) = with_key before (key_of item.0)

-- whether one of the keys is the same as this one
abbrev pub is_among : {K : Type 0} → (K → K → Bool) → List K → K → Bool
is_among same keys key = list_any (λ other. same other key) keys

-- the faults of a list, by which keys are the same, what their texts are, and which key a path is
module _ {K : Type 0} (same : K → K → Bool) (text : K → Text) where
  -- a key that is the same as one before is a duplicate
  abbrev pub repeated : List K → Span → K → List Fault
  repeated before span key = if is_among same before key then at_span (DuplicateField (text key)) span ∷ [] else []

  -- the faults of a key: that it is none, or a duplicate
  abbrev pub key_faults : List K → Span → Outcome K → List Fault
  key_faults before span (Value key) = repeated before span key
  key_faults before span (Faults fault more) = fault ∷ more

  module _ (key_of : Path → Outcome K) {A : Type 0} where
    -- the faults of an item: those of its key, and then those of its value
    abbrev pub item_faults : List K → Option (Path × Outcome A) → List Fault
    item_faults before None = plain (UnexpectedFormat (codes "expression")) ∷ []
    item_faults before (Some item) = key_faults before (path_span item.0) (key_of item.0) ++ faults_of item.1

    -- the faults of all items in order, behind these keys
    abbrev pub map_faults : Cells A → List K → List NestedMeta → List Fault
    map_faults cells before [] = []
    map_faults cells before (item ∷ items) =
        item_faults before (pair_in cells item) ++ map_faults cells (keys_with key_of before (pair_in cells item)) items

-- the entry of a key and a value, where both are there
abbrev pub entry : {K A : Type 0} → Outcome K → Outcome A → List (K × A)
entry (Value key) (Value value) = (key, value) ∷ []
entry (Value key) (Faults fault more) = []
entry (Faults fault more) value = []

module _ {K : Type 0} (key_of : Path → Outcome K) {A : Type 0} where
  -- the entry of an item, where it has one
  abbrev pub entry_of : Option (Path × Outcome A) → List (K × A)
  entry_of None = []
  entry_of (Some item) = entry (key_of item.0) item.1

  -- the entries of the items, in the items' order
  abbrev pub entries_of : Cells A → List NestedMeta → List (K × A)
  entries_of cells items = flat_map (λ item. entry_of (pair_in cells item)) items

-- the entries of all items, or else all faults
abbrev pub read_entries : {K A : Type 0} → (K → K → Bool) → (K → Text) → (Path → Outcome K) → Cells A → List NestedMeta → Outcome (List (K × A))
read_entries same text key_of cells items = settle (map_faults same text key_of cells [] items) (Value (entries_of key_of cells items))

-- the entries in the order of their keys, put in one after another
abbrev pub sorted : {K A : Type 0} → (K → K → Ordering) → List (K × A) → List (K × A)
sorted order entries = fold (λ before entry. insert_entry order before entry.0 entry.1) [] entries

-- a list, as its entries in the items' order
abbrev pub entries_cells : {K A : Type 0} → (K → K → Bool) → (K → Text) → (Path → Outcome K) → Cells A → Cells (List (K × A))
entries_cells same text key_of cells = record no_cells { list = λ items. Some (read_entries same text key_of cells items) }

-- a list, as entries in the order of their keys
abbrev pub sorted_cells : {K A : Type 0} → (K → K → Bool) → (K → K → Ordering) → (K → Text) → (Path → Outcome K) → Cells A → Cells (List (K × A))
sorted_cells same order text key_of cells = shown_cells (sorted order) (entries_cells same text key_of cells)

-- ---- what is seen of maps

-- the entries, in their order
abbrev pub seen_entries : {K X S A : Type 0} → (K → S) → (X → A) → List (K × X) → List (S × A)
seen_entries see_key see entries = map (λ entry. (see_key entry.0, see entry.1)) entries

-- ---- the keys

-- texts in the order of their bytes, as `String` and `Text`
abbrev pub text_order : Text → Text → Ordering
text_order = slice_cmp nat_cmp

-- identifiers by their texts without `r#`; a raw one stands behind the one that is not
abbrev pub ident_order : Ident → Ident → Ordering
ident_order a b = ordering_then (slice_cmp nat_cmp a.text b.text) (bool_cmp a.raw b.raw)
