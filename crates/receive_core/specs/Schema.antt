-- Schemas: the fields that are read from items, and what is built of their values.
use Rattle.std.specs.Prelude.{◌≡◌, List, [], ◌∷◌, ◌++◌, fold, Option, Some, IsSome}
use Rattle.std.proofs.Common.{refl}
use Rattle.base_core.specs.declared.text.Text.{Text}
use Rattle.error_fault.specs.Outcome.{Outcome, faults_of, value_of, with_siblings}
use Rattle.meta_nested.specs.Cells.{Cells}
use Rattle.meta_nested.specs.Dispatch.{from_list}
use Rattle.meta_nested.specs.declared.nested.NestedMeta.{NestedMeta}
use Rattle.receive_core.specs.Names.{own, unclaimed}
use Rattle.receive_core.specs.Checks.{AreClear, Checks, FlatChecks, IsClear, applied, flat_faults, multiple_checks, optional_checks, optional_value, single_checks, single_value, values}
use Rattle.receive_core.specs.SchemaLaws.{applied_is_some, clear_last, flat_last, single_is_some, value_is_some}

-- ---- fields

-- a field: its checks, and its value by the items of its name, which is there where nothing is wrong with them
pub record FieldSchema (A : Type 0) : Type 0 where
  pub checks : Checks
  pub value : List NestedMeta → Option A
  pub whole : (own_items : List NestedMeta) → IsClear checks own_items → IsSome (value own_items)

-- the value of a field among all items
abbrev pub value_in : {A : Type 0} → FieldSchema A → List NestedMeta → Option A
value_in field items = field.value (own field.checks.name items)

module _ {A : Type 0} (cells : Cells A) (name : Text) where
  -- one value, which is missing without an item, unless the type has one for that
  abbrev pub single : FieldSchema A
  single = record { checks = single_checks cells name; value = single_value cells; whole = single_is_some cells name }

  -- one value, which may be absent
  abbrev pub optional : FieldSchema (Option A)
  optional = record { checks = optional_checks cells name; value = λ own_items. Some (optional_value cells own_items); whole = λ own_items clear. refl }

  -- a value for each item
  abbrev pub multiple : FieldSchema (List A)
  multiple = record { checks = multiple_checks cells name; value = λ own_items. Some (values cells own_items); whole = λ own_items clear. refl }

-- ---- schemas

-- the fields, and what is built of their values by the names of the fields that were read before and all items; it is there
-- where nothing is wrong
pub record Schema (A : Type 0) : Type 0 where
  pub fields : List Checks
  pub flattened : List FlatChecks
  pub value : List Text → List NestedMeta → Option A
  pub whole : (names : List Text) (items : List NestedMeta) → AreClear fields items → flat_faults flattened names items ≡ [] → IsSome (value names items)

-- what is built without any field
abbrev pub pure : {A : Type 0} → A → Schema A
pure value = record { fields = []; flattened = []; value = λ names items. Some value; whole = λ names items clear none. refl }

infixl 10 ◌<*>◌
-- one more field, to whose value the function is applied
abbrev pub ◌<*>◌ : {A B : Type 0} → Schema (A → B) → FieldSchema A → Schema B
schema <*> field =
    record {
      fields = schema.fields ++ field.checks ∷ [];
      flattened = schema.flattened;
      value = λ names items. applied (schema.value names items) (value_in field items);
      whole =
          λ names items clear none.
          let split = clear_last schema.fields field.checks items clear in
          applied_is_some (schema.value names items) (value_in field items) (schema.whole names items split.0 none) (field.whole (own field.checks.name items) split.1);
    }

-- the names behind those of more fields
abbrev pub names_behind : List Text → List Checks → List Text
names_behind names fields = fold (λ names checks. names ++ checks.name ∷ []) names fields

-- what a type makes of the items of no name; the names are alternatives too
abbrev pub flat_outcome : {A : Type 0} → Cells A → List Text → List NestedMeta → Outcome A
flat_outcome cells names items = with_siblings names (from_list cells (unclaimed names items))

-- the flattened field, which reads the items that no field before it takes
abbrev pub flatten : {A B : Type 0} → Schema (A → B) → Cells A → Schema B
flatten schema cells =
    record {
      fields = schema.fields;
      flattened = schema.flattened ++ (λ names items. faults_of (flat_outcome cells (names_behind names schema.fields) items)) ∷ [];
      value = λ names items. applied (schema.value names items) (value_of (flat_outcome cells (names_behind names schema.fields) items));
      whole =
          λ names items clear none.
          let split = flat_last schema.flattened (λ names items. faults_of (flat_outcome cells (names_behind names schema.fields) items)) names items none in
          applied_is_some (schema.value names items) (value_of (flat_outcome cells (names_behind names schema.fields) items))
          (schema.whole names items clear split.0) (value_is_some (flat_outcome cells (names_behind names schema.fields) items) split.1);
    }
