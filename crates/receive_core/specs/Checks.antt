-- The value of a field, and what is wrong with its items or with their absence.
use Rattle.std.specs.Prelude.{◌≡◌, ℕ, List, [], ◌∷◌, ◌++◌, flat_map, length, Option, Some, None, option_map, option_and_then, decimal, codes}
use Rattle.base_core.specs.declared.text.Text.{Text}
use Rattle.error_fault.specs.declared.fault.Fault.{Fault}
use Rattle.error_fault.specs.declared.kind.FaultKind.TheVariants.{DuplicateField, MissingField}
use Rattle.error_fault.specs.Fault.{at_span, plain}
use Rattle.error_fault.specs.Faults.{at}
use Rattle.error_fault.specs.Outcome.{Outcome, Value, Faults, faults_of, value_of}
use Rattle.meta_nested.specs.Cells.{Cells}
use Rattle.meta_nested.specs.Dispatch.{from_nested_meta, from_none}
use Rattle.meta_nested.specs.Nodes.{nested_span}
use Rattle.meta_nested.specs.declared.nested.NestedMeta.{NestedMeta}
use Rattle.receive_core.specs.Names.{own}

-- a field without its type: its name, the faults of an item of its name behind the earlier ones, and those where these are all
pub record Checks : Type 0 where
  pub name : Text
  pub faults : List NestedMeta → NestedMeta → List Fault
  pub missing : List NestedMeta → List Fault

-- the faults of the field's items, each behind those before it
abbrev pub own_faults : Checks → List NestedMeta → List NestedMeta → List Fault
own_faults checks before [] = []
own_faults checks before (item ∷ items) = checks.faults before item ++ own_faults checks (before ++ item ∷ []) items

-- nothing is wrong with the field's items, nor with their absence
abbrev pub IsClear : Checks → List NestedMeta → Type 0
IsClear checks own_items = (own_faults checks [] own_items ≡ []) × (checks.missing own_items ≡ [])

-- nothing is wrong with any of the fields
abbrev pub AreClear : List Checks → List NestedMeta → Type 0
AreClear [] items = Unit {0}
AreClear (checks ∷ more) items = IsClear checks (own checks.name items) × AreClear more items

-- the faults of a flattened field, by the names of the fields before it and all items
abbrev pub FlatChecks : Type 0
FlatChecks = List Text → List NestedMeta → List Fault

-- the faults of the flattened fields, behind the fields of these names
abbrev pub flat_faults : List FlatChecks → List Text → List NestedMeta → List Fault
flat_faults flattened names items = flat_map (λ faults. faults names items) flattened

-- the function that was built, at one more value
abbrev pub applied : {A B : Type 0} → Option (A → B) → Option A → Option B
applied make value = option_and_then (λ f. option_map f value) make

-- the name of a value in a list: the field's, and how many values stand before it
abbrev pub label : Text → ℕ → Text
label name number = name ++ codes "[" ++ decimal number ++ codes "]"

abbrev pub value_list : {A : Type 0} → Outcome A → List A
value_list (Value value) = value ∷ []
value_list (Faults fault more) = []

module _ {A : Type 0} (cells : Cells A) where
  -- the value of the first item, or without one that of the type
  unfoldable pub single_value : List NestedMeta → Option A
  single_value [] = from_none cells
  single_value (item ∷ more) = value_of (from_nested_meta cells item)

  -- the value of the first item
  unfoldable pub optional_value : List NestedMeta → Option A
  optional_value [] = None
  optional_value (item ∷ more) = value_of (from_nested_meta cells item)

  -- the values of those items that have one
  unfoldable pub values : List NestedMeta → List A
  values own_items = flat_map (λ item. value_list (from_nested_meta cells item)) own_items

module _ {A : Type 0} (cells : Cells A) (name : Text) where
  -- only the first item is read; each other is a duplicate
  unfoldable pub single_faults : List NestedMeta → NestedMeta → List Fault
  single_faults [] item = at (faults_of (from_nested_meta cells item)) name
  single_faults (first ∷ more) item = at_span (DuplicateField name) (nested_span item) ∷ []

  abbrev pub missing_by : Option A → List Fault
  missing_by None = plain (MissingField name) ∷ []
  missing_by (Some value) = []

  -- without an item a value is missing, unless the type has one for that
  unfoldable pub single_missing : List NestedMeta → List Fault
  single_missing [] = missing_by (from_none cells)
  single_missing (item ∷ more) = []

  unfoldable pub multiple_faults : List NestedMeta → NestedMeta → List Fault
  multiple_faults before item = at (faults_of (from_nested_meta cells item)) (label name (length (values cells before)))

  abbrev pub single_checks : Checks
  single_checks = record { name = name; faults = single_faults; missing = single_missing }

  abbrev pub optional_checks : Checks
  optional_checks = record { name = name; faults = single_faults; missing = λ own_items. [] }

  abbrev pub multiple_checks : Checks
  multiple_checks = record { name = name; faults = multiple_faults; missing = λ own_items. [] }
