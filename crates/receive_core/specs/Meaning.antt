-- What items mean to a receiver, and the entries of attributes: what is built of them, or all that is wrong with them.
use Rattle.std.specs.Prelude.{Bool, true, false, ◌||◌, cond, List, [], ◌∷◌, ◌++◌, map, flat_map, Option, Some, None, codes}
use Rattle.base_core.specs.declared.text.Text.{Text}
use Rattle.error_fault.specs.declared.fault.Fault.{Fault}
use Rattle.error_fault.specs.declared.kind.FaultKind.TheVariants.{Custom, UnexpectedFormat, UnknownField}
use Rattle.error_fault.specs.Fault.{at_span}
use Rattle.error_fault.specs.Kind.{set_of}
use Rattle.error_fault.specs.Outcome.{Outcome, Value, refused, settle}
use Rattle.meta_nested.specs.Nodes.{nested_span}
use Rattle.meta_nested.specs.declared.nested.NestedMeta.{NestedMeta}
use Rattle.meta_entries.specs.Entries.{items}
use Rattle.meta_entries.specs.declared.entry.Entry.{Entry}
use Rattle.meta_entries.specs.declared.entry.Entry.TheVariants as entry
use Rattle.receive_core.specs.Names.{is_among, is_named, item_name, own}
use Rattle.receive_core.specs.Checks.{Checks, FlatChecks, flat_faults}
use Rattle.receive_core.specs.Schema.{Schema}

abbrev pub names_of : List Checks → List Text
names_of fields = map (λ checks. checks.name) fields

-- the faults of an item in one field, behind all earlier items
abbrev pub field_faults : List NestedMeta → NestedMeta → Checks → List Fault
field_faults before item checks = cond (is_named checks.name item) (checks.faults (own checks.name before) item) []

-- the faults of an item of no field's name: none where a flattened field reads it
abbrev pub unknown_faults : List Text → Bool → NestedMeta → Text → List Fault
unknown_faults names has_flat item name =
    cond (is_among names name || has_flat) [] (at_span (UnknownField name (set_of names)) (nested_span item) ∷ [])

-- the faults of an item, of which the fields have these; a literal has no name and is a fault
abbrev pub named_faults : List Text → Bool → NestedMeta → Option Text → List Fault → List Fault
named_faults names has_flat item None faults = at_span (UnexpectedFormat (codes "literal")) (nested_span item) ∷ []
named_faults names has_flat item (Some name) faults = faults ++ unknown_faults names has_flat item name

abbrev pub item_faults : List Checks → Bool → List NestedMeta → NestedMeta → List Fault
item_faults fields has_flat before item =
    named_faults (names_of fields) has_flat item (item_name item) (flat_map (field_faults before item) fields)

-- the faults of all entries in order: those of each item behind the items before it, and those that stand in the place of items
abbrev pub all_entry_faults : List Checks → Bool → List NestedMeta → List Entry → List Fault
all_entry_faults fields has_flat before [] = []
all_entry_faults fields has_flat before (entry.Item item ∷ entries) =
    item_faults fields has_flat before item ++ all_entry_faults fields has_flat (before ++ item ∷ []) entries
all_entry_faults fields has_flat before (entry.Fault fault ∷ entries) = fault ∷ all_entry_faults fields has_flat before entries

-- the faults of missing fields, in the order of the fields
abbrev pub missing_faults : List Checks → List NestedMeta → List Fault
missing_faults fields items = flat_map (λ checks. checks.missing (own checks.name items)) fields

abbrev pub has_flat : List FlatChecks → Bool
has_flat [] = false
has_flat (faults ∷ flattened) = true

-- all that is wrong: the faults of the entries, those of the flattened fields, and those of missing fields
abbrev pub faults_in : {A : Type 0} → Schema A → List Entry → List Fault
faults_in schema entries =
    all_entry_faults schema.fields (has_flat schema.flattened) [] entries
    ++ (flat_faults schema.flattened [] (items entries) ++ missing_faults schema.fields (items entries))

-- the value; the schema's law rules out that nothing is built where nothing is wrong
abbrev pub built : {A : Type 0} → Option A → Outcome A
built None = refused (Custom (codes "no value"))
built (Some value) = Value value

-- all that is wrong with the entries, else what is built of their items
abbrev pub entry_meaning : {A : Type 0} → Schema A → List Entry → Outcome A
entry_meaning schema entries = settle (faults_in schema entries) (built (schema.value [] (items entries)))

-- what items mean that stand among no faults
abbrev pub meaning : {A : Type 0} → Schema A → List NestedMeta → Outcome A
meaning schema items = entry_meaning schema (map entry.Item items)
