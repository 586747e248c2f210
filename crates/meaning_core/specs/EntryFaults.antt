-- How an item of a field is read, and the faults of each entry.
use Rattle.std.specs.Prelude.{ℕ, cond, List, [], ◌∷◌, ◌++◌, length, flat_map, Option, Some, None, codes}
use Rattle.base_core.specs.declared.text.Text.{Text}
use Rattle.tok_types.specs.declared.span.Span.{Span}
use Rattle.machine_steps.specs.NestedMeta.{NestedMeta}
use Rattle.error_fault.specs.declared.fault.Fault.{Fault}
use Rattle.error_fault.specs.declared.kind.FaultKind.TheVariants.{DuplicateField, UnexpectedFormat, UnknownField}
use Rattle.error_fault.specs.Kind.{set_of}
use Rattle.error_fault.specs.Fault.{at_span}
use Rattle.error_fault.specs.Faults.{at}
use Rattle.error_fault.specs.Outcome.{Outcome, Value, Faults, faults_of}
use Rattle.machine_value.specs.declared.value.Value.{Value as Datum}
use Rattle.machine_steps.specs.Nodes.{nested_span}
use Rattle.node_expr.specs.declared.ty.«Type».{«Type» as Type'}
use Rattle.meaning_core.specs.Decl.{Shape, Single, Many, Flat, FieldDecl, BodyDecl, has_flat, names}
use Rattle.machine_steps.specs.Names.{item_name}
use Rattle.machine_steps.specs.Setting.{Setting}
use Rattle.machine_steps.specs.Convert.{Earlier, element}
use Rattle.machine_steps.specs.Reading.{label, read_at}
use Rattle.meta_entries.specs.Entries.{items}
use Rattle.meta_entries.specs.declared.entry.Entry.{Entry}
use Rattle.meta_entries.specs.declared.entry.Entry.TheVariants as entry
use Rattle.meaning_core.specs.Owners.{owner_named, own, field_at}

-- the type of one value of a field
abbrev pub element_by : Setting → Shape → Type' → Type'
element_by setting Single type = type
element_by setting Many type = element setting type
element_by setting Flat type = type

module _ (setting : Setting) (earlier : Earlier) where
  -- an item of a field
  abbrev pub read : FieldDecl → NestedMeta → Outcome Datum
  read field = read_at setting earlier field.with field.transform (element_by setting field.shape field.type)

  abbrev pub value_list : Outcome Datum → List Datum
  value_list (Value value) = value ∷ []
  value_list (Faults fault more) = []

  -- the values of those items that have one
  abbrev pub values : FieldDecl → List NestedMeta → List Datum
  values field own_items = flat_map (λ item. value_list (read field item)) own_items

  -- the faults of an item of a field behind the field's earlier items
  abbrev pub own_faults : FieldDecl → Shape → List NestedMeta → NestedMeta → List Fault
  own_faults field Many before item = at (faults_of (read field item)) (label field.name (length (values field before)))
  own_faults field Single [] item = at (faults_of (read field item)) field.name
  own_faults field Single (first ∷ more) item = at_span (DuplicateField field.name) (nested_span item) ∷ []
  own_faults field Flat before item = []

  module _ (body : BodyDecl) where
    -- an item that no field owns: nothing where a field takes the rest or the body allows it
    abbrev pub unknown : Text → Span → List Fault
    unknown name span =
        cond (has_flat body.fields) []
        (cond body.allows_unknown [] (at_span (UnknownField name (set_of (names body.fields))) span ∷ []))

    -- an item with the number of its owner behind the earlier items
    abbrev pub item_faults : List NestedMeta → Text → NestedMeta → Option ℕ → List Fault
    item_faults before name item None = unknown name (nested_span item)
    item_faults before name item (Some number) =
        own_faults (field_at body.fields number) (field_at body.fields number).shape (own body.fields before number) item

    -- the faults of an item by its name; a literal has none and is a fault
    abbrev pub named_faults : List NestedMeta → NestedMeta → Option Text → List Fault
    named_faults before item None = at_span (UnexpectedFormat (codes "literal")) (nested_span item) ∷ []
    named_faults before item (Some name) = item_faults before name item (owner_named body.fields name)

    -- the faults of an entry behind the earlier items
    abbrev pub entry_faults : List NestedMeta → Entry → List Fault
    entry_faults before (entry.Fault fault) = fault ∷ []
    entry_faults before (entry.Item item) = named_faults before item (item_name item)

    -- the faults of these entries in order, behind the earlier items
    abbrev pub all_entry_faults : List NestedMeta → List Entry → List Fault
    all_entry_faults before [] = []
    all_entry_faults before (it ∷ entries) =
        entry_faults before it ++ all_entry_faults (before ++ items (it ∷ [])) entries
