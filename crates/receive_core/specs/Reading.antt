-- What a reader of fields holds behind the fields that were read.
use Rattle.std.specs.Prelude.{◌≡◌, true, List, [], ◌∷◌, ◌++◌, fold, Option, option_map, Result, Ok, Err}
use Rattle.std.specs.declared.alloc.AllocError.{AllocError}
use Rattle.base_core.specs.declared.text.Text.{Text}
use Rattle.error_fault.specs.declared.fault.Fault.{Fault}
use Rattle.meta_nested.specs.declared.nested.NestedMeta.{NestedMeta}
use Rattle.receive_core.specs.Names.{own}
use Rattle.receive_core.specs.Checks.{Checks, FlatChecks}
use Rattle.receive_core.specs.Schema.{Schema}
use Rattle.receive_core.specs.Meaning.{field_faults}
use Rattle.receive_core.specs.declared.fields.FieldReader.{FieldReader}

-- the faults of each item in one field, behind the items before it
abbrev pub faults_by_item : Checks → List NestedMeta → List NestedMeta → List (List Fault)
faults_by_item checks before [] = []
faults_by_item checks before (item ∷ items) = field_faults before item checks ∷ faults_by_item checks (before ++ item ∷ []) items

-- behind one more field
abbrev pub after_field : FieldReader → Checks → FieldReader
after_field reader checks =
    record reader {
      names = reader.names ++ checks.name ∷ [];
      item_faults = reader.item_faults ++ faults_by_item checks [] reader.items.now ∷ [];
      missing = reader.missing ++ checks.missing (own checks.name reader.items.now);
    }

-- behind a flattened field with these faults
abbrev pub after_flat : FieldReader → List Fault → FieldReader
after_flat reader faults = record reader { has_flat = true; flat_faults = reader.flat_faults ++ faults }

-- behind a flattened field, by the names and the items that stood at the start
abbrev pub after_flattened : List Text → List NestedMeta → FieldReader → FlatChecks → FieldReader
after_flattened names items reader faults = after_flat reader (faults names items)

-- All fields of the schema were read in order, and what was found is what they build. Want of memory is free.
abbrev pub ReadsSchema : {X A : Type 0} → (X → A) → Schema A → FieldReader → Result (Option X) AllocError → FieldReader → Type 0
ReadsSchema seen schema old (Ok found) new =
    (new ≡ fold (after_flattened old.names old.items.now) (fold after_field old schema.fields) schema.flattened)
    × (option_map seen found ≡ schema.value old.names old.items.now)
ReadsSchema seen schema old (Err _) new = Unit {0}
