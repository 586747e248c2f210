-- What maps and sets refuse of a list, by filters: each item with those before it.
use Rattle.std.specs.Prelude.{List, [], ◌∷◌, flat_map, map, Option, Some, None, Bool}
use Rattle.base_core.specs.declared.text.Text.{Text}
use Rattle.tok_types.specs.declared.span.Span.{Span}
use Rattle.node_expr.specs.declared.path.Path.{Path}
use Rattle.error_fault.specs.Outcome.{Outcome, Value, Faults}
use Rattle.error_fault.specs.declared.fault.Fault.{Fault}
use Rattle.meta_nested.specs.declared.nested.NestedMeta.{NestedMeta}
use Rattle.meta_nested.specs.Cells.{Cells}
use Rattle.meta_core.specs.Maps.{item_faults, pair_in}
use Rattle.meta_core.specs.Sets.{name_faults}

-- each item, with those before it
abbrev pub with_front : {A : Type 0} → List A → List (List A × A)
with_front [] = []
with_front (item ∷ items) = ([], item) ∷ map (λ it. (item ∷ it.0, it.1)) (with_front items)

-- what is read, where it has no fault
abbrev pub values : {A : Type 0} → Outcome A → List A
values (Value it) = it ∷ []
values (Faults fault more) = []

-- the keys of the items, also where a value fails
module _ {K : Type 0} (key_of : Path → Outcome K) {A : Type 0} where
  abbrev pub key_in : Option (Path × Outcome A) → List K
  key_in None = []
  key_in (Some item) = values (key_of item.0)

  abbrev pub keys_in : Cells A → List NestedMeta → List K
  keys_in cells items = flat_map (λ item. key_in (pair_in cells item)) items

-- the names of the items
abbrev pub names_in : {A : Type 0} → (NestedMeta → Outcome A) → List NestedMeta → List A
names_in read items = flat_map (λ item. values (read item)) items

-- the faults of each item of a map, by the keys of those before it
abbrev pub map_faults_by : {K A : Type 0} → (K → K → Bool) → (K → Text) → (Path → Outcome K) → Cells A → List NestedMeta → List Fault
map_faults_by same text key_of cells items =
    flat_map (λ it. item_faults same text key_of (keys_in key_of cells it.0) (pair_in cells it.1)) (with_front items)

-- the faults of each item of a set, by the names of those before it
abbrev pub set_faults_by : {A : Type 0} → (A → A → Bool) → (A → Text) → (A → Span) → (NestedMeta → Outcome A) → List NestedMeta → List Fault
set_faults_by same text span_of read items =
    flat_map (λ it. name_faults same text span_of (names_in read it.0) (read it.1)) (with_front items)
