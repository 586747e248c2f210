-- What is wrong with items is the same to the fields of a schema and to those of a declaration.
use Rattle.std.proofs.Common.{◌≡◌, ◌∙◌, ℕ, zero, suc, Bool, true, false, ◌||◌, cond, List, [], ◌∷◌, ◌++◌, map, flat_map, Option, None, Some, option_map, refl, sym, ap, ap₂, append-nil, bytes_eq}
use Rattle.std.proofs.lemmas.Slice.Eq.{bytes_eq-Decides}
use Rattle.base_core.specs.declared.text.Text.{Text}
use Rattle.tok_types.specs.declared.span.Span.{Span}
use Rattle.error_fault.specs.declared.fault.Fault.{Fault}
use Rattle.error_fault.specs.declared.kind.FaultKind.TheVariants.{UnknownField}
use Rattle.error_fault.specs.Fault.{at_span}
use Rattle.error_fault.specs.Kind.{set_of}
use Rattle.error_fault.specs.Outcome.{Outcome, on_value, settle}
use Rattle.meta_nested.specs.Nodes.{nested_span}
use Rattle.meta_nested.specs.declared.nested.NestedMeta.{NestedMeta}
use Rattle.machine_steps.specs.Setting.{Setting}
use Rattle.machine_steps.specs.Convert.{Earlier}
use Rattle.meta_entries.specs.Entries.{items as items_in}
use Rattle.meta_entries.specs.declared.entry.Entry.{Entry}
use Rattle.meta_entries.specs.declared.entry.Entry.TheVariants as entry
use Rattle.meaning_core.specs.Decl as decls
use Rattle.meaning_core.specs.Decl.{BodyDecl, FieldDecl, Flat, Many, Shape, Single, is_named_by, names}
use Rattle.meaning_core.specs.EntryFaults as entries
use Rattle.meaning_core.specs.FieldValue as values
use Rattle.meaning_core.specs.Meaning.{joined}
use Rattle.meaning_core.specs.Owners as owners
use Rattle.meaning_core.specs.Owners.{each, field_at, owner_named}
use Rattle.receive_core.specs.Checks.{Checks, flat_faults}
use Rattle.receive_core.specs.Meaning.{all_entry_faults, built, faults_in, field_faults, has_flat, item_faults, missing_faults, named_faults, names_of}
use Rattle.receive_core.specs.Names.{is_among, is_this_name, item_name, own}
use Rattle.receive_core.specs.Schema.{Schema}
use Rattle.receive_core.specs.SchemaLaws.{both_empty}
use Rattle.law_received.specs.Agreement.{AreDistinct, AreFields, IsField}
use Rattle.law_received.specs.Claims.{SameFaults, SameMeaning, declared_value}
use Rattle.law_received.proofs.Owners.{OwnsItems, both_false, has_same_name, owns_items, same_name}

-- what a field finds wrong with an item of the name
faults_of_name : (checks : Checks) (before : List NestedMeta) (item : NestedMeta) (name : Text) → item_name item ≡ Some name
    → field_faults before item checks ≡ cond (bytes_eq checks.name name) (checks.faults (own checks.name before) item) []
faults_of_name checks before item name at = ap (λ n. cond (is_this_name checks.name n) (checks.faults (own checks.name before) item) []) at

unowned : (fields : List Checks) (before : List NestedMeta) (item : NestedMeta) (name : Text) → item_name item ≡ Some name
    → is_among (names_of fields) name ≡ false → flat_map (field_faults before item) fields ≡ []
unowned [] before item name at out = refl
unowned (checks ∷ more) before item name at out =
    let parts = both_false (bytes_eq checks.name name) (is_among (names_of more) name) out in
    ap₂ (λ xs ys. xs ++ ys)
    (faults_of_name checks before item name at ∙ ap (λ b. cond b (checks.faults (own checks.name before) item) []) parts.0)
    (unowned more before item name at parts.1)

module _ (setting : Setting) (earlier : Earlier) (body : BodyDecl) where
  -- the faults of an item by the number of its owner
  abbrev by_owner : List FieldDecl → (ℕ → List NestedMeta) → List Fault → NestedMeta → Option ℕ → List Fault
  by_owner fields own_items unknown item None = unknown
  by_owner fields own_items unknown item (Some number) =
      entries.own_faults setting earlier (field_at fields number) (field_at fields number).shape (own_items number) item

  next_owner : (field : FieldDecl) (fields : List FieldDecl) (own_items : ℕ → List NestedMeta) (unknown : List Fault) (item : NestedMeta) (o : Option ℕ)
      → by_owner fields (λ n. own_items (suc n)) unknown item o ≡ by_owner (field ∷ fields) own_items unknown item (option_map suc o)
  next_owner field fields own_items unknown item None = refl
  next_owner field fields own_items unknown item (Some number) = refl

  one_owner_by : (checks : Checks) (more : List Checks) (field : FieldDecl) (fields : List FieldDecl) (own_items : ℕ → List NestedMeta)
      → (unknown : List Fault) (before : List NestedMeta) (item : NestedMeta) (name : Text) → item_name item ≡ Some name
      → IsField setting earlier body checks field → is_among (names_of more) checks.name ≡ false → own_items zero ≡ own checks.name before
      → (b : Bool) → bytes_eq checks.name name ≡ b
      → flat_map (field_faults before item) more ++ cond (is_among (names_of more) name || false) [] unknown
      ≡ by_owner fields (λ n. own_items (suc n)) unknown item (owner_named fields name)
      → flat_map (field_faults before item) (checks ∷ more) ++ cond (is_among (names_of (checks ∷ more)) name || false) [] unknown
      ≡ by_owner (field ∷ fields) own_items unknown item (cond b (Some zero) (option_map suc (owner_named fields name)))
  one_owner_by checks more field fields own_items unknown before item name at is out same true e rest =
      let faults = checks.faults (own checks.name before) item in
      let alike : checks.name ≡ name = (bytes_eq-Decides checks.name name).0 e in
      ap₂ (λ xs b. xs ++ cond ((b || is_among (names_of more) name) || false) [] unknown)
      (ap₂ (λ xs ys. xs ++ ys)
      (faults_of_name checks before item name at ∙ ap (λ b. cond b faults []) e)
      (unowned more before item name at (ap (is_among (names_of more)) (sym alike) ∙ out)))
      e
      ∙ append-nil (faults ++ [])
      ∙ append-nil faults
      ∙ sym (ap (λ own_items. entries.own_faults setting earlier field field.shape own_items item) same ∙ is.faults (own checks.name before) item)
  one_owner_by checks more field fields own_items unknown before item name at is out same false e rest =
      let faults = checks.faults (own checks.name before) item in
      ap₂ (λ xs b. (xs ++ flat_map (field_faults before item) more) ++ cond ((b || is_among (names_of more) name) || false) [] unknown)
      (faults_of_name checks before item name at ∙ ap (λ b. cond b faults []) e)
      e
      ∙ rest
      ∙ next_owner field fields own_items unknown item (owner_named fields name)

  one_owner : (checks : List Checks) (fields : List FieldDecl) (own_items : ℕ → List NestedMeta) (unknown : List Fault) (before : List NestedMeta)
      → (item : NestedMeta) (name : Text) → item_name item ≡ Some name → AreFields setting earlier body checks fields → AreDistinct (names_of checks)
      → OwnsItems setting earlier body checks before own_items
      → flat_map (field_faults before item) checks ++ cond (is_among (names_of checks) name || false) [] unknown
      ≡ by_owner fields own_items unknown item (owner_named fields name)
  one_owner [] [] own_items unknown before item name at are differ own_by = refl
  one_owner [] (field ∷ fields) own_items unknown before item name at are differ own_by = absurd are
  one_owner (first ∷ more) [] own_items unknown before item name at are differ own_by = absurd are
  one_owner (first ∷ more) (field ∷ fields) own_items unknown before item name at are differ own_by =
      one_owner_by first more field fields own_items unknown before item name at are.0 differ.0 own_by.0 (bytes_eq first.name name) refl
      (one_owner more fields (λ n. own_items (suc n)) unknown before item name at are.1 differ.1 own_by.1)
      ∙ ap (λ b. by_owner (field ∷ fields) own_items unknown item (cond b (Some zero) (option_map suc (owner_named fields name))))
      (sym (has_same_name setting earlier body first field name are.0))

  -- ---- the fields of a declaration

  same_names : (checks : List Checks) (fields : List FieldDecl) → AreFields setting earlier body checks fields → names fields ≡ names_of checks
  same_names [] [] are = refl
  same_names [] (field ∷ fields) are = absurd are
  same_names (first ∷ more) [] are = absurd are
  same_names (first ∷ more) (field ∷ fields) are =
      ap (λ b. cond b (field.name ∷ names fields) (names fields)) are.0.named
      ∙ ap₂ (λ x xs. x ∷ xs) are.0.name (same_names more fields are.1)

  never_flat : (shape : Shape) (skip : Bool) → is_named_by shape skip ≡ true → decls.is_flat shape ≡ false
  never_flat Single skip is = refl
  never_flat Many skip is = refl
  never_flat Flat skip is = absurd (cc is)

  no_flat : (checks : List Checks) (fields : List FieldDecl) → AreFields setting earlier body checks fields → decls.has_flat fields ≡ false
  no_flat [] [] are = refl
  no_flat [] (field ∷ fields) are = absurd are
  no_flat (first ∷ more) [] are = absurd are
  no_flat (first ∷ more) (field ∷ fields) are =
      ap₂ (λ a b. cond a true b) (never_flat field.shape field.skip are.0.named) (no_flat more fields are.1)

  none_flat : (field : FieldDecl) (shape : Shape) (skip : Bool) (items : List NestedMeta) → is_named_by shape skip ≡ true
      → values.flat_faults setting earlier body field shape items ≡ []
  none_flat field Single skip items is = refl
  none_flat field Many skip items is = refl
  none_flat field Flat skip items is = absurd (cc is)

  all_none_flat : (checks : List Checks) (fields : List FieldDecl) → AreFields setting earlier body checks fields → (items : List NestedMeta)
      → (own_items : ℕ → List NestedMeta)
      → joined (each (λ field own_items. values.flat_faults setting earlier body field field.shape items) fields own_items) ≡ []
  all_none_flat [] [] are items own_items = refl
  all_none_flat [] (field ∷ fields) are items own_items = absurd are
  all_none_flat (first ∷ more) [] are items own_items = absurd are
  all_none_flat (first ∷ more) (field ∷ fields) are items own_items =
      ap₂ (λ xs ys. xs ++ ys) (none_flat field field.shape field.skip items are.0.named) (all_none_flat more fields are.1 items (λ n. own_items (suc n)))

  same_missing : (checks : List Checks) (fields : List FieldDecl) → AreFields setting earlier body checks fields → (items : List NestedMeta)
      → (own_items : ℕ → List NestedMeta) → OwnsItems setting earlier body checks items own_items
      → joined (each (λ field own_items. values.missing setting earlier body field field.shape own_items) fields own_items) ≡ missing_faults checks items
  same_missing [] [] are items own_items own_by = refl
  same_missing [] (field ∷ fields) are items own_items own_by = absurd are
  same_missing (first ∷ more) [] are items own_items own_by = absurd are
  same_missing (first ∷ more) (field ∷ fields) are items own_items own_by =
      ap₂ (λ xs ys. xs ++ ys)
      (ap (values.missing setting earlier body field field.shape) own_by.0 ∙ are.0.missing_faults (own first.name items))
      (same_missing more fields are.1 items (λ n. own_items (suc n)) own_by.1)

  -- ---- items

  module _ (checks : List Checks) (are : AreFields setting earlier body checks body.fields) (differ : AreDistinct (names_of checks))
      (closed : body.allows_unknown ≡ false) where
    same_unknown : (name : Text) (span : Span) → entries.unknown setting earlier body name span ≡ at_span (UnknownField name (set_of (names_of checks))) span ∷ []
    same_unknown name span =
        ap₂ (λ a b. cond a [] (cond b [] (at_span (UnknownField name (set_of (names body.fields))) span ∷ []))) (no_flat checks body.fields are) closed
        ∙ ap (λ ns. at_span (UnknownField name (set_of ns)) span ∷ []) (same_names checks body.fields are)

    by_owner_is : (before : List NestedMeta) (item : NestedMeta) (name : Text) (o : Option ℕ)
        → by_owner body.fields (owners.own body.fields before) (entries.unknown setting earlier body name (nested_span item)) item o
        ≡ entries.item_faults setting earlier body before name item o
    by_owner_is before item name None = refl
    by_owner_is before item name (Some number) = refl

    same_item : (before : List NestedMeta) (item : NestedMeta) (name : Option Text) → item_name item ≡ name
        → named_faults (names_of checks) false item name (flat_map (field_faults before item) checks)
        ≡ entries.named_faults setting earlier body before item name
    same_item before item None at = refl
    same_item before item (Some name) at =
        ap (λ us. flat_map (field_faults before item) checks ++ cond (is_among (names_of checks) name || false) [] us) (sym (same_unknown name (nested_span item)))
        ∙ one_owner checks body.fields (owners.own body.fields before) (entries.unknown setting earlier body name (nested_span item)) before item name at
        are differ (owns_items setting earlier body checks body.fields are differ before)
        ∙ by_owner_is before item name (owner_named body.fields name)

    same_entries : (before : List NestedMeta) (those : List Entry)
        → all_entry_faults checks false before those ≡ entries.all_entry_faults setting earlier body before those
    same_entries before [] = refl
    same_entries before (entry.Item item ∷ more) =
        ap₂ (λ xs ys. xs ++ ys)
        (same_item before item (item_name item) refl ∙ ap (entries.named_faults setting earlier body before item) (sym (same_name item)))
        (same_entries (before ++ item ∷ []) more)
    same_entries before (entry.Fault fault ∷ more) =
        ap (λ faults. fault ∷ faults)
        (same_entries before more ∙ ap (λ items. entries.all_entry_faults setting earlier body items more) (sym (append-nil before)))

pub same_faults : {A : Type 0} (schema : Schema A) → SameFaults schema
same_faults schema setting earlier decl is those =
    let checks = schema.fields in
    let fields = decl.body.fields in
    let items = items_in those in
    let own_items = owners.own fields items in
    ap (λ flattened. all_entry_faults checks (has_flat flattened) [] those ++ (flat_faults flattened [] items ++ missing_faults checks items))
    is.none_flattened
    ∙ ap₂ (λ xs ys. xs ++ ys)
    (same_entries setting earlier decl.body checks is.are_fields is.are_distinct is.allows_unknown [] those)
    (sym
    (ap₂ (λ xs ys. xs ++ ys)
    (all_none_flat setting earlier decl.body checks fields is.are_fields items own_items)
    (same_missing setting earlier decl.body checks fields is.are_fields items own_items
    (owns_items setting earlier decl.body checks fields is.are_fields is.are_distinct items))))

-- entries without a fault are items
all_items : (fields : List Checks) (flat : Bool) (before : List NestedMeta) (those : List Entry) → all_entry_faults fields flat before those ≡ []
    → map entry.Item (items_in those) ≡ those
all_items fields flat before [] is = refl
all_items fields flat before (entry.Item item ∷ more) is =
    ap (λ rest. entry.Item item ∷ rest) (all_items fields flat (before ++ item ∷ []) more (both_empty (item_faults fields flat before item) _ is).1)
all_items fields flat before (entry.Fault fault ∷ more) is = absurd (cc is)

settle_same : {A B : Type 0} (show : A → B) (faults : List Fault) (outcome : Outcome A) (other : Outcome B)
    → (faults ≡ [] → on_value show outcome ≡ other) → on_value show (settle faults outcome) ≡ settle faults other
settle_same show [] outcome other is = is refl
settle_same show (fault ∷ more) outcome other is = refl

pub same_meaning : {A : Type 0} (schema : Schema A) → SameMeaning schema
same_meaning schema setting earlier decl is show alike those =
    let value = declared_value setting earlier decl in
    settle_same show (faults_in schema those) (built (schema.value [] (items_in those))) (value those)
    (λ none.
    let all = all_items schema.fields (has_flat schema.flattened) [] those (both_empty _ _ none).0 in
    alike (items_in those) (ap (faults_in schema) all ∙ none) ∙ ap value all)
    ∙ ap (λ faults. settle faults (value those)) (same_faults schema setting earlier decl is those)
