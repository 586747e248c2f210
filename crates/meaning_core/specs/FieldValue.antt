-- The value of a field, and where a field is missing.
use Rattle.std.specs.Prelude.{List, [], ◌∷◌, Option, Some, None}
use Rattle.machine_steps.specs.NestedMeta.{NestedMeta}
use Rattle.error_fault.specs.declared.fault.Fault.{Fault}
use Rattle.error_fault.specs.declared.kind.FaultKind.TheVariants.{MissingField}
use Rattle.error_fault.specs.Fault.{plain}
use Rattle.error_fault.specs.Outcome.{Outcome, Value, Faults, faults_of, with_siblings}
use Rattle.machine_value.specs.declared.value.Value.{Value as Datum}
use Rattle.machine_value.specs.declared.value.Value.TheVariants as value
use Rattle.machine_value.specs.Members.{member}
use Rattle.machine_steps.specs.Seen.{NothingSeen}
use Rattle.machine_steps.specs.Use.TheVariants as use_at
use Rattle.node_expr.specs.declared.ty.«Type».{«Type» as Type'}
use Rattle.meaning_core.specs.Decl.{Shape, Single, Many, Flat, FieldDecl, BodyDecl, Fallback, OfType, OfCall, OfContainer, fallback, names}
use Rattle.machine_steps.specs.Setting.{Setting, ask}
use Rattle.machine_steps.specs.Convert.{Earlier, list, none, default}
use Rattle.meaning_core.specs.Owners.{unclaimed}
use Rattle.meaning_core.specs.EntryFaults.{read, values}

-- what a fallback gives at a type; `whole` is the container's default
abbrev pub fallback_outcome : Setting → Type' → Datum → Fallback → Outcome Datum
fallback_outcome setting type whole OfType = Value (default setting type)
fallback_outcome setting type whole (OfCall callable) = ask setting callable use_at.Default type NothingSeen
fallback_outcome setting type whole (OfContainer name) = Value (member name whole)

module _ (setting : Setting) (earlier : Earlier) (body : BodyDecl) where
  -- a flattened field reads what no other field takes
  abbrev pub flat_outcome : FieldDecl → List NestedMeta → Outcome Datum
  flat_outcome field all = with_siblings (names body.fields) (list setting earlier field.type (unclaimed body.fields all))

  -- its faults; another field has none here
  abbrev pub flat_faults : FieldDecl → Shape → List NestedMeta → List Fault
  flat_faults field Flat all = faults_of (flat_outcome field all)
  flat_faults field Single all = []
  flat_faults field Many all = []

  -- without an item: missing where nothing stands for it
  abbrev pub missing_by : FieldDecl → Option Fallback → Option Datum → List Fault
  missing_by field (Some fall) nothing = []
  missing_by field None (Some value) = []
  missing_by field None None = plain (MissingField field.name) ∷ []

  -- the fault of a missing field, by its own items
  abbrev pub missing : FieldDecl → Shape → List NestedMeta → List Fault
  missing field Single [] = missing_by field (fallback body field) (none setting earlier field.type)
  missing field Single (item ∷ more) = []
  missing field Many own_items = []
  missing field Flat own_items = []

  -- the value that is read from nothing, where the type has one
  abbrev pub value_of_none : FieldDecl → Option Datum → Outcome Datum
  value_of_none field (Some value) = Value value
  value_of_none field None = Faults (plain (MissingField field.name)) []

  -- the value of a single field without an item
  abbrev pub absent_value : FieldDecl → Datum → Option Fallback → Outcome Datum
  absent_value field whole (Some fall) = fallback_outcome setting field.type whole fall
  absent_value field whole None = value_of_none field (none setting earlier field.type)

  -- the value of a field of many values without an item
  abbrev pub empty_value : FieldDecl → Datum → Option Fallback → Outcome Datum
  empty_value field whole (Some fall) = fallback_outcome setting field.type whole fall
  empty_value field whole None = Value (value.List [])

  -- the value of a field by all items and by its own; `whole` is the container's default
  abbrev pub field_value : Datum → List NestedMeta → FieldDecl → Shape → List NestedMeta → Outcome Datum
  field_value whole all field Flat own_items = flat_outcome field all
  field_value whole all field Many [] = empty_value field whole (fallback body field)
  field_value whole all field Many (item ∷ more) = Value (value.List (values setting earlier field (item ∷ more)))
  field_value whole all field Single [] = absent_value field whole (fallback body field)
  field_value whole all field Single (item ∷ more) = read setting earlier field item
