-- Where nothing is wrong with all entries, nothing is wrong with any field.
use Rattle.std.proofs.Common.{◌≡◌, ◌∙◌, Bool, true, false, cond, List, [], ◌∷◌, ◌++◌, flat_map, Option, None, Some, refl, sym, ap, ap₂, append-nil}
use Rattle.std.proofs.lemmas.List.Elements.{filter-append}
use Rattle.base_core.specs.declared.text.Text.{Text}
use Rattle.error_fault.specs.declared.fault.Fault.{Fault}
use Rattle.meta_nested.specs.declared.nested.NestedMeta.{NestedMeta}
use Rattle.meta_entries.specs.Entries as entries
use Rattle.meta_entries.specs.declared.entry.Entry.{Entry}
use Rattle.meta_entries.specs.declared.entry.Entry.TheVariants as entry
use Rattle.receive_core.specs.Checks.{AreClear, Checks, own_faults}
use Rattle.receive_core.specs.Meaning.{all_entry_faults, field_faults, missing_faults, named_faults, names_of}
use Rattle.receive_core.specs.Names.{is_named, item_name, own}
use Rattle.receive_core.specs.SchemaLaws.{both_empty}

named_empty : (names : List Text) (flat : Bool) (item : NestedMeta) (name : Option Text) (faults : List Fault)
    → named_faults names flat item name faults ≡ [] → faults ≡ []
named_empty names flat item None faults is = absurd (cc is)
named_empty names flat item (Some name) faults is = (both_empty faults _ is).0

-- no field has a fault of these items, behind others
abbrev AreQuiet : List Checks → List NestedMeta → List NestedMeta → Type 0
AreQuiet fields before [] = Unit {0}
AreQuiet fields before (item ∷ items) = (flat_map (field_faults before item) fields ≡ []) × AreQuiet fields (before ++ item ∷ []) items

abbrev IsQuiet : Checks → List NestedMeta → List NestedMeta → Type 0
IsQuiet checks before [] = Unit {0}
IsQuiet checks before (item ∷ items) = (field_faults before item checks ≡ []) × IsQuiet checks (before ++ item ∷ []) items

all_quiet : (fields : List Checks) (flat : Bool) (before : List NestedMeta) (all : List Entry) → all_entry_faults fields flat before all ≡ []
    → AreQuiet fields before (entries.items all)
all_quiet fields flat before [] is = tt
all_quiet fields flat before (entry.Item item ∷ more) is =
    let parts = both_empty (named_faults (names_of fields) flat item (item_name item) (flat_map (field_faults before item) fields)) _ is in
    (named_empty (names_of fields) flat item (item_name item) _ parts.0, all_quiet fields flat (before ++ item ∷ []) more parts.1)
all_quiet fields flat before (entry.Fault fault ∷ more) is = absurd (cc is)

first_quiet : (checks : Checks) (fields : List Checks) (before items : List NestedMeta) → AreQuiet (checks ∷ fields) before items
    → IsQuiet checks before items × AreQuiet fields before items
first_quiet checks fields before [] is = (tt, tt)
first_quiet checks fields before (item ∷ items) is =
    let parts = both_empty (field_faults before item checks) (flat_map (field_faults before item) fields) is.0 in
    let more = first_quiet checks fields (before ++ item ∷ []) items is.1 in
    ((parts.0, more.0), (parts.1, more.1))

one_more : (checks : Checks) (b : Bool) (before : List NestedMeta) (item : NestedMeta) (more : List NestedMeta) → cond b (checks.faults before item) [] ≡ []
    → own_faults checks (before ++ cond b (item ∷ []) []) more ≡ [] → own_faults checks before (cond b (item ∷ more) more) ≡ []
one_more checks true before item more is rest = ap₂ (λ xs ys. xs ++ ys) is rest
one_more checks false before item more is rest = ap (λ zs. own_faults checks zs more) (sym (append-nil before)) ∙ rest

own_empty : (checks : Checks) (before items : List NestedMeta) → IsQuiet checks before items
    → own_faults checks (own checks.name before) (own checks.name items) ≡ []
own_empty checks before [] is = refl
own_empty checks before (item ∷ items) is =
    one_more checks (is_named checks.name item) (own checks.name before) item (own checks.name items) is.0
    (ap (λ zs. own_faults checks zs (own checks.name items)) (sym (filter-append (is_named checks.name) before (item ∷ [])))
    ∙ own_empty checks (before ++ item ∷ []) items is.1)

fields_clear : (fields : List Checks) (items : List NestedMeta) → AreQuiet fields [] items → missing_faults fields items ≡ [] → AreClear fields items
fields_clear [] items is there = tt
fields_clear (checks ∷ fields) items is there =
    let parts = first_quiet checks fields [] items is in
    let both = both_empty (checks.missing (own checks.name items)) (missing_faults fields items) there in
    ((own_empty checks [] items parts.0, both.0), fields_clear fields items parts.1 both.1)

pub all_clear : (fields : List Checks) (flat : Bool) (all : List Entry) (flat_faults : List Fault)
    → all_entry_faults fields flat [] all ++ (flat_faults ++ missing_faults fields (entries.items all)) ≡ []
    → AreClear fields (entries.items all) × (flat_faults ≡ [])
all_clear fields flat all flat_faults is =
    let items = entries.items all in
    let parts = both_empty (all_entry_faults fields flat [] all) (flat_faults ++ missing_faults fields items) is in
    let more = both_empty flat_faults (missing_faults fields items) parts.1 in
    (fields_clear fields items (all_quiet fields flat [] all parts.0) more.1, more.0)
