-- What the calls of a reader of fields do to one item, and what they tell at the end.
use Rattle.std.specs.Prelude.{ℕ, Bool, zero, suc, cond, List, [], ◌∷◌, ◌++◌, flat_map, get_or, length, Option, Some, None, option_map}
use Rattle.base_core.specs.declared.text.Text.{Text}
use Rattle.error_fault.specs.declared.fault.Fault.{Fault}
use Rattle.error_fault.specs.declared.kind.FaultKind.TheVariants.{DuplicateField}
use Rattle.error_fault.specs.Fault.{at_span}
use Rattle.error_fault.specs.Faults.{at}
use Rattle.error_fault.specs.Outcome.{faults_of, value_of}
use Rattle.meta_nested.specs.Cells.{Cells}
use Rattle.meta_nested.specs.Dispatch.{from_nested_meta}
use Rattle.meta_nested.specs.Nodes.{nested_span}
use Rattle.meta_nested.specs.declared.nested.NestedMeta.{NestedMeta}
use Rattle.meta_entries.specs.declared.entry.Entry.{Entry}
use Rattle.meta_entries.specs.declared.entry.Entry.TheVariants as entry
use Rattle.receive_core.specs.Names.{is_named, item_name}
use Rattle.receive_core.specs.Checks.{Checks, label, value_list}
use Rattle.receive_core.specs.Meaning.{named_faults}
use Rattle.receive_core.specs.Reading.{faults_by_item}
use Rattle.receive_core.specs.declared.fields.FieldReader.{FieldReader}

-- ---- the place of one value: nothing yet, or what the first item of the name gave

abbrev pub slot_seen : {X A : Type 0} → (X → A) → Option (Option X) → Option (Option A)
slot_seen seen slot = option_map (option_map seen) slot

-- what stands there behind the field's items
abbrev pub slot_of : {A : Type 0} → Cells A → List NestedMeta → Option (Option A)
slot_of cells [] = None
slot_of cells (item ∷ more) = Some (value_of (from_nested_meta cells item))

module _ {A : Type 0} (cells : Cells A) (name : Text) where
  abbrev pub slot_put : Option (Option A) → NestedMeta → Option (Option A)
  slot_put None item = Some (value_of (from_nested_meta cells item))
  slot_put (Some value) item = Some value

  abbrev pub put_faults : Option (Option A) → NestedMeta → List Fault
  put_faults None item = at (faults_of (from_nested_meta cells item)) name
  put_faults (Some value) item = at_span (DuplicateField name) (nested_span item) ∷ []

  -- what one more item makes of the place, and its faults
  abbrev pub slot_after : Option (Option A) → NestedMeta → Option (Option A)
  slot_after slot item = cond (is_named name item) (slot_put slot item) slot

  abbrev pub slot_faults : Option (Option A) → NestedMeta → List Fault
  slot_faults slot item = cond (is_named name item) (put_faults slot item) []

  -- what one more item puts behind the values, and its faults
  abbrev pub values_of : NestedMeta → List A
  values_of item = cond (is_named name item) (value_list (from_nested_meta cells item)) []

  abbrev pub value_faults : List A → NestedMeta → List Fault
  value_faults before item = cond (is_named name item) (at (faults_of (from_nested_meta cells item)) (label name (length before))) []

-- behind a field, but for what is missing
abbrev pub after_items : FieldReader → Checks → FieldReader
after_items reader checks =
    record reader {
      names = reader.names ++ checks.name ∷ [];
      item_faults = reader.item_faults ++ faults_by_item checks [] reader.items.now ∷ [];
    }

-- ---- the end

abbrev pub at_number : ℕ → List (List Fault) → List Fault
at_number number faults = get_or faults number []

-- the faults of the item of this number in all fields
abbrev pub faults_at : List (List (List Fault)) → ℕ → List Fault
faults_at item_faults number = flat_map (at_number number) item_faults

-- the faults of an entry, whose item has this number
abbrev pub entry_faults_at : List Text → Bool → List (List (List Fault)) → ℕ → Entry → List Fault
entry_faults_at names has_flat item_faults number (entry.Item item) =
    named_faults names has_flat item (item_name item) (faults_at item_faults number)
entry_faults_at names has_flat item_faults number (entry.Fault fault) = fault ∷ []

-- the number of the first item behind an entry
abbrev pub number_behind : ℕ → Entry → ℕ
number_behind number (entry.Item item) = suc number
number_behind number (entry.Fault fault) = number

-- the faults of these entries, whose items have the numbers from this one on
abbrev pub faults_from : List Text → Bool → List (List (List Fault)) → ℕ → List Entry → List Fault
faults_from names has_flat item_faults number [] = []
faults_from names has_flat item_faults number (it ∷ entries) =
    entry_faults_at names has_flat item_faults number it ++ faults_from names has_flat item_faults (number_behind number it) entries

-- all faults, those of the items in their places among the entries
abbrev pub end_faults : FieldReader → List Entry → List Fault
end_faults reader entries =
    faults_from reader.names reader.has_flat reader.item_faults zero entries ++ (reader.flat_faults ++ reader.missing)
