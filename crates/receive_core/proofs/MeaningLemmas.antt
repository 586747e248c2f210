-- What a reader has found wrong behind all fields of a schema is what the schema means.
use Rattle.std.proofs.Common.{◌≡◌, ◌∙◌, Bool, true, false, List, [], ◌∷◌, ◌++◌, length, length-append, get_or, map, flat_map, fold, add-one, Option, None, Some, Result, refl, sym, ap, ap₂, subst, append_assoc, append-nil}
use Rattle.std.specs.Prelude.{IsSome, option_map}
use Rattle.std.proofs.lemmas.Grind.{flat_map-append}
use Rattle.std.proofs.lemmas.List.{map-append}
use Rattle.base_core.specs.declared.text.Text.{Text}
use Rattle.error_fault.specs.declared.fault.Fault.{Fault}
use Rattle.error_fault.specs.Outcome.{on_value, settle}
use Rattle.error_core.specs.Answers.{Answers}
use Rattle.error_core.specs.declared.fail.Fail.{Fail}
use Rattle.error_core.proofs.AnswersLemmas.{answers-on_value}
use Rattle.meta_nested.specs.declared.nested.NestedMeta.{NestedMeta}
use Rattle.meta_entries.specs.Entries as entries
use Rattle.meta_entries.specs.declared.entry.Entry.{Entry}
use Rattle.meta_entries.specs.declared.entry.Entry.TheVariants as entry
use Rattle.meta_entries.proofs.ItemLemmas.{items-of_items}
use Rattle.receive_core.specs.Checks.{Checks, FlatChecks, flat_faults}
use Rattle.receive_core.specs.Meaning.{all_entry_faults, built, entry_meaning, faults_in, field_faults, has_flat, meaning, missing_faults, named_faults, names_of}
use Rattle.receive_core.specs.Names.{item_name, own}
use Rattle.receive_core.specs.Reading.{after_field, after_flattened, faults_by_item}
use Rattle.receive_core.specs.Schema.{Schema}
use Rattle.receive_core.specs.Steps.{end_faults, faults_at, faults_from}
use Rattle.receive_core.specs.declared.fields.FieldReader.{FieldReader}
use Rattle.receive_core.proofs.ClearLemmas.{all_clear}

-- the faults of these items, field by field
abbrev by_field : List NestedMeta → List Checks → List (List (List Fault))
by_field items fields = map (λ checks. faults_by_item checks [] items) fields

-- the reader stands behind these fields
abbrev IsBehind : FieldReader → List Checks → Type 0
IsBehind reader fields =
    (reader.names ≡ names_of fields) × (reader.item_faults ≡ by_field reader.items.now fields) × (reader.missing ≡ missing_faults fields reader.items.now)

behind_one : (reader : FieldReader) (fields : List Checks) (checks : Checks) → IsBehind reader fields → IsBehind (after_field reader checks) (fields ++ checks ∷ [])
behind_one reader fields checks is = (
  ap (λ xs. xs ++ checks.name ∷ []) is.0 ∙ sym (map-append (λ it. it.name) fields (checks ∷ [])),
  ap (λ xs. xs ++ faults_by_item checks [] reader.items.now ∷ []) is.1
      ∙ sym (map-append (λ it. faults_by_item it [] reader.items.now) fields (checks ∷ [])),
  ap (λ xs. xs ++ checks.missing (own checks.name reader.items.now)) is.2
      ∙ ap (λ xs. missing_faults fields reader.items.now ++ xs) (sym (append-nil (checks.missing (own checks.name reader.items.now))))
      ∙ sym (flat_map-append (λ it. it.missing (own it.name reader.items.now)) fields (checks ∷ [])),
)

behind_all : (rest first : List Checks) (reader : FieldReader) → IsBehind reader first → IsBehind (fold after_field reader rest) (first ++ rest)
behind_all [] first reader is = subst (IsBehind reader) (sym (append-nil first)) is
behind_all (checks ∷ rest) first reader is =
    subst (IsBehind (fold after_field (after_field reader checks) rest)) (append_assoc first (checks ∷ []) rest)
    (behind_all rest (first ++ checks ∷ []) (after_field reader checks) (behind_one reader first checks is))

items_stay : (fields : List Checks) (reader : FieldReader) → (fold after_field reader fields).items ≡ reader.items
items_stay [] reader = refl
items_stay (checks ∷ fields) reader = items_stay fields (after_field reader checks)

-- the faults of an item behind others in one field
at_item : (checks : Checks) (before first : List NestedMeta) (item : NestedMeta) (more : List NestedMeta)
    → get_or (faults_by_item checks before (first ++ item ∷ more)) (length first) [] ≡ field_faults (before ++ first) item checks
at_item checks before [] item more = ap (λ xs. field_faults xs item checks) (sym (append-nil before))
at_item checks before (other ∷ first) item more =
    at_item checks (before ++ other ∷ []) first item more
    ∙ ap (λ xs. field_faults xs item checks) (append_assoc before (other ∷ []) first)

in_fields : (fields : List Checks) (all before : List NestedMeta) (item : NestedMeta) (more : List NestedMeta) → all ≡ before ++ item ∷ more
    → faults_at (by_field all fields) (length before) ≡ flat_map (field_faults before item) fields
in_fields [] all before item more is = refl
in_fields (checks ∷ fields) all before item more is =
    ap₂ (λ xs ys. xs ++ ys)
    (ap (λ xs. get_or (faults_by_item checks [] xs) (length before) []) is ∙ at_item checks [] before item more)
    (in_fields fields all before item more is)

in_entries : (fields : List Checks) (flat : Bool) (all before : List NestedMeta) (those : List Entry) → all ≡ before ++ entries.items those
    → faults_from (names_of fields) flat (by_field all fields) (length before) those ≡ all_entry_faults fields flat before those
in_entries fields flat all before [] is = refl
in_entries fields flat all before (entry.Item item ∷ more) is =
    ap₂ (λ xs ys. xs ++ ys)
    (ap (named_faults (names_of fields) flat item (item_name item)) (in_fields fields all before item (entries.items more) is))
    (ap (λ n. faults_from (names_of fields) flat (by_field all fields) n more)
    (sym (length-append before (item ∷ []) ∙ add-one (length before)))
    ∙ in_entries fields flat all (before ++ item ∷ []) more (is ∙ sym (append_assoc before (item ∷ []) (entries.items more))))
in_entries fields flat all before (entry.Fault fault ∷ more) is = ap (λ faults. fault ∷ faults) (in_entries fields flat all before more is)

-- behind flattened fields
module _ (names : List Text) (items : List NestedMeta) where
  fields_stay : (flattened : List FlatChecks) (fields : List Checks) (reader : FieldReader) → IsBehind reader fields
      → IsBehind (fold (after_flattened names items) reader flattened) fields
  fields_stay [] fields reader is = is
  fields_stay (faults ∷ flattened) fields reader is = fields_stay flattened fields (after_flattened names items reader faults) is

  flat_items : (flattened : List FlatChecks) (reader : FieldReader) → (fold (after_flattened names items) reader flattened).items ≡ reader.items
  flat_items [] reader = refl
  flat_items (faults ∷ flattened) reader = flat_items flattened (after_flattened names items reader faults)

  stays_flat : (flattened : List FlatChecks) (reader : FieldReader) → reader.has_flat ≡ true
      → (fold (after_flattened names items) reader flattened).has_flat ≡ true
  stays_flat [] reader is = is
  stays_flat (faults ∷ flattened) reader is = stays_flat flattened (after_flattened names items reader faults) refl

  is_flat : (flattened : List FlatChecks) (reader : FieldReader) → reader.has_flat ≡ false
      → (fold (after_flattened names items) reader flattened).has_flat ≡ has_flat flattened
  is_flat [] reader is = is
  is_flat (faults ∷ flattened) reader is = stays_flat flattened (after_flattened names items reader faults) refl

  flat_told : (flattened : List FlatChecks) (reader : FieldReader)
      → (fold (after_flattened names items) reader flattened).flat_faults ≡ reader.flat_faults ++ flat_faults flattened names items
  flat_told [] reader = sym (append-nil reader.flat_faults)
  flat_told (faults ∷ flattened) reader =
      flat_told flattened (after_flattened names items reader faults)
      ∙ append_assoc reader.flat_faults (faults names items) (flat_faults flattened names items)

fields_flat : (fields : List Checks) (reader : FieldReader) → (fold after_field reader fields).has_flat ≡ reader.has_flat
fields_flat [] reader = refl
fields_flat (checks ∷ fields) reader = fields_flat fields (after_field reader checks)

fields_told : (fields : List Checks) (reader : FieldReader) → (fold after_field reader fields).flat_faults ≡ reader.flat_faults
fields_told [] reader = refl
fields_told (checks ∷ fields) reader = fields_told fields (after_field reader checks)

-- the faults at the end, of entries whose items the reader has
end_is : (reader : FieldReader) (fields : List Checks) (flat : Bool) (faults : List Fault) (those : List Entry) → IsBehind reader fields
    → reader.has_flat ≡ flat → reader.flat_faults ≡ faults → reader.items.now ≡ entries.items those
    → end_faults reader those ≡ all_entry_faults fields flat [] those ++ (faults ++ missing_faults fields (entries.items those))
end_is reader fields flat faults those is same told has =
    ap₂ (λ xs ys. xs ++ ys)
    (ap₂ (λ names by_field. faults_from names reader.has_flat by_field 0 those) is.0 is.1
    ∙ in_entries fields reader.has_flat reader.items.now [] those has
    ∙ ap (λ b. all_entry_faults fields b [] those) same)
    (ap₂ (λ xs ys. xs ++ ys) told (is.2 ∙ ap (missing_faults fields) has))

settled : {X A : Type 0} (seen : X → A) (faults : List Fault) (found : Option X)
    → on_value seen (settle faults (built found)) ≡ settle faults (built (option_map seen found))
settled seen [] None = refl
settled seen [] (Some value) = refl
settled seen (fault ∷ faults) found = refl

some_seen : {X A : Type 0} (seen : X → A) (found : Option X) → IsSome (option_map seen found) → IsSome found
some_seen seen None is = absurd (cc is)
some_seen seen (Some value) is = refl

-- a reading from its start to its end
module _ {X A : Type 0} (seen : X → A) (schema : Schema A) (start end : FieldReader) (found : Option X)
    (names : start.names ≡ []) (item_faults : start.item_faults ≡ []) (missing : start.missing ≡ []) (flat : start.has_flat ≡ false)
    (told : start.flat_faults ≡ [])
    (goes : end ≡ fold (after_flattened start.names start.items.now) (fold after_field start schema.fields) schema.flattened)
    (finds : option_map seen found ≡ schema.value start.names start.items.now) where
  pub reads_names : end.names ≡ names_of schema.fields
  reads_names =
      let ns = start.names in
      let is = start.items.now in
      let mid = fold after_field start schema.fields in
      ap (λ f. f.names) goes
      ∙ (fields_stay ns is schema.flattened schema.fields mid (behind_all schema.fields [] start (names, item_faults, missing))).0

  reads_items : end.items.now ≡ start.items.now
  reads_items =
      let mid = fold after_field start schema.fields in
      ap (λ f. f.items.now) goes
      ∙ ap (λ it. it.now) (flat_items start.names start.items.now schema.flattened mid ∙ items_stay schema.fields start)

  -- of entries whose items are read
  module _ (those : List Entry) (has : start.items.now ≡ entries.items those) where
    ends : end_faults end those ≡ faults_in schema those
    ends =
        let ns = start.names in
        let is = start.items.now in
        let mid = fold after_field start schema.fields in
        let last = fold (after_flattened ns is) mid schema.flattened in
        ap (λ f. end_faults f those) goes
        ∙ end_is last schema.fields (has_flat schema.flattened) (flat_faults schema.flattened [] (entries.items those)) those
        (fields_stay ns is schema.flattened schema.fields mid (behind_all schema.fields [] start (names, item_faults, missing)))
        (is_flat ns is schema.flattened mid (fields_flat schema.fields start ∙ flat))
        (flat_told ns is schema.flattened mid
        ∙ ap₂ (λ xs ns. xs ++ flat_faults schema.flattened ns is) (fields_told schema.fields start ∙ told) names
        ∙ ap (flat_faults schema.flattened []) has)
        (ap (λ it. it.now) (flat_items ns is schema.flattened mid ∙ items_stay schema.fields start) ∙ has)

    finds_from : option_map seen found ≡ schema.value [] (entries.items those)
    finds_from = finds ∙ ap₂ schema.value names has

    pub reads_entries : (result : Result X Fail) → Answers (λ it. it) result (settle (end_faults end those) (built found))
        → Answers seen result (entry_meaning schema those)
    reads_entries result is =
        subst (Answers seen result)
        (settled seen (end_faults end those) found ∙ ap₂ (λ faults value. settle faults (built value)) ends finds_from)
        (answers-on_value seen result _ is)

    -- where nothing was found wrong, a value was found
    pub reads_whole : end_faults end those ≡ [] → IsSome found
    reads_whole none =
        let rest = flat_faults schema.flattened [] (entries.items those) in
        let clear = all_clear schema.fields (has_flat schema.flattened) those rest (sym ends ∙ none) in
        some_seen seen found (subst IsSome (sym finds_from) (schema.whole [] (entries.items those) clear.0 clear.1))

  -- of the items themselves
  pub reads_items_whole : end_faults end (map entry.Item end.items.now) ≡ [] → IsSome found
  reads_items_whole = reads_whole (map entry.Item end.items.now) (sym reads_items ∙ sym (items-of_items end.items.now))

  pub reads_meaning : (items : List NestedMeta) (result : Result X Fail) → start.items.now ≡ items
      → Answers (λ it. it) result (settle (end_faults end (map entry.Item end.items.now)) (built found)) → Answers seen result (meaning schema items)
  reads_meaning items result has is =
      reads_entries (map entry.Item items) (has ∙ sym (items-of_items items)) result
      (subst (λ items. Answers (λ it. it) result (settle (end_faults end (map entry.Item items)) (built found))) (reads_items ∙ has) is)
