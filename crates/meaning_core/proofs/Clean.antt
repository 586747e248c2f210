-- Where no fault is collected, the first item of each field has a value.
use Rattle.std.proofs.Common.{◌≡◌, ℕ, zero, true, List, [], ◌∷◌, ◌++◌, Option, Some, None, refl, ap, ◌∙◌, sym, append_assoc, append-nil, ⊎_elim, subst, true≢false}
use Rattle.std.proofs.lemmas.Bool.Decides.{eqb_tells}
use Rattle.base_core.specs.declared.text.Text.{Text}
use Rattle.machine_steps.specs.NestedMeta.{NestedMeta}
use Rattle.error_fault.specs.Faults.{at}
use Rattle.error_fault.specs.Outcome.{Outcome, Value, Faults, faults_of}
use Rattle.std.specs.Prelude.{option_and_then}
use Rattle.machine_steps.specs.Names.{item_name}
use Rattle.meaning_core.specs.Decl.{Shape, Single, Many, Flat, FieldDecl, BodyDecl, is_named_by}
use Rattle.machine_steps.specs.Setting.{Setting}
use Rattle.machine_steps.specs.Convert.{Earlier}
use Rattle.meta_entries.specs.Entries.{items}
use Rattle.meta_entries.specs.declared.entry.Entry.{Entry}
use Rattle.meta_entries.specs.declared.entry.Entry.TheVariants as entry
use Rattle.meta_entries.proofs.ItemLemmas.{items-append}
use Rattle.meaning_core.specs.Owners.{owner, owner_named, is_this, own, field_at}
use Rattle.machine_steps.specs.Reading.{label}
use Rattle.meaning_core.specs.EntryFaults.{read, own_faults, item_faults, named_faults, entry_faults, all_entry_faults}
use Rattle.meaning_core.proofs.Filters.{OnOwner, owner_on, filter_none, filter_one, same, other}

abbrev IsCons : {A : Type 0} → List A → Type 0
IsCons [] = ⊥
IsCons (x ∷ xs) = Unit {0}

pub not_nil : {A : Type 0} (x : A) (xs : List A) → x ∷ xs ≡ [] → ⊥
not_nil x xs e = let P : List _ → Type 0 = λ ys. IsCons ys in subst P e tt

pub nil_left : {A : Type 0} (xs ys : List A) → xs ++ ys ≡ [] → xs ≡ []
nil_left [] ys e = refl
nil_left (x ∷ xs) ys e = absurd (not_nil x (xs ++ ys) e)

pub nil_right : {A : Type 0} (xs ys : List A) → xs ++ ys ≡ [] → ys ≡ []
nil_right [] ys e = e
nil_right (x ∷ xs) ys e = absurd (not_nil x (xs ++ ys) e)

abbrev pub IsValue : {A : Type 0} → Outcome A → Type 0
IsValue (Value v) = Unit {0}
IsValue (Faults f fs) = ⊥

pub value_if : {A : Type 0} (o : Outcome A) (name : Text) → at (faults_of o) name ≡ [] → IsValue o
value_if (Value v) name e = tt
value_if (Faults f fs) name e = not_nil _ _ e

pub value_if_none : {A : Type 0} (o : Outcome A) → faults_of o ≡ [] → IsValue o
value_if_none (Value v) e = tt
value_if_none (Faults f fs) e = not_nil f fs e

module _ (setting : Setting) (earlier : Earlier) where
  abbrev pub Clean : FieldDecl → List NestedMeta → Type 0
  Clean f [] = Unit {0}
  Clean f (i ∷ is) = IsValue (read setting earlier f i)

  clean_more : (f : FieldDecl) (s : Shape) (is : List NestedMeta) (i : NestedMeta) → is_named_by s f.skip ≡ true → own_faults setting earlier f s is i ≡ [] → Clean f is → Clean f (is ++ i ∷ [])
  clean_more f Single [] i n e c = value_if (read setting earlier f i) f.name e
  clean_more f Single (x ∷ xs) i n e c = c
  clean_more f Many [] i n e c = value_if (read setting earlier f i) (label f.name zero) e
  clean_more f Many (x ∷ xs) i n e c = c
  clean_more f Flat is i n e c = absurd (true≢false (sym n))

  module _ (body : BodyDecl) where
    clean_item : (before : List NestedMeta) (n : Text) (i : NestedMeta) (o : Option ℕ) → owner body.fields i ≡ o → OnOwner body.fields o → item_faults setting earlier body before n i o ≡ [] → (k : ℕ) → Clean (field_at body.fields k) (own body.fields before k) → Clean (field_at body.fields k) (own body.fields (before ++ i ∷ []) k)
    clean_item before n i None e on none k c =
        let P : List NestedMeta → Type 0 = λ is. Clean (field_at body.fields k) is in
        subst P (sym (filter_none (λ j. is_this k (owner body.fields j)) before i (ap (is_this k) e))) c
    clean_item before n i (Some j) e on none k c =
        let P : List NestedMeta → Type 0 = λ is. Clean (field_at body.fields k) is in
        let hit : j ≡ k → P (own body.fields (before ++ i ∷ []) k) = λ q.
        let faults : own_faults setting earlier (field_at body.fields k) (field_at body.fields k).shape (own body.fields before k) i ≡ [] = ap (λ x. own_faults setting earlier (field_at body.fields x) (field_at body.fields x).shape (own body.fields before x) i) (sym q) ∙ none in
        let named : is_named_by (field_at body.fields k).shape (field_at body.fields k).skip ≡ true = ap (λ x. is_named_by (field_at body.fields x).shape (field_at body.fields x).skip) (sym q) ∙ on.1 in
        subst P (sym (filter_one (λ x. is_this k (owner body.fields x)) before i (ap (is_this k) e ∙ ap (λ x. is_this k (Some x)) q ∙ same k)))
        (clean_more (field_at body.fields k) (field_at body.fields k).shape (own body.fields before k) i named faults c) in
        let miss : ¬ (j ≡ k) → P (own body.fields (before ++ i ∷ []) k) = λ ne.
        subst P (sym (filter_none (λ x. is_this k (owner body.fields x)) before i (ap (is_this k) e ∙ other j k ne))) c in
        ⊎_elim (λ q. hit q.1) (λ q. miss q.1) (eqb_tells j k)

    clean_named : (before : List NestedMeta) (i : NestedMeta) (n : Option Text) → item_name i ≡ n → named_faults setting earlier body before i n ≡ [] → (k : ℕ) → Clean (field_at body.fields k) (own body.fields before k) → Clean (field_at body.fields k) (own body.fields (before ++ i ∷ []) k)
    clean_named before i None e none k c = absurd (not_nil _ [] none)
    clean_named before i (Some n) e none k c = clean_item before n i (owner_named body.fields n) (ap (option_and_then (owner_named body.fields)) e) (owner_on body.fields n) none k c

    clean_entry : (before : List NestedMeta) (e : Entry) → entry_faults setting earlier body before e ≡ [] → (k : ℕ) → Clean (field_at body.fields k) (own body.fields before k) → Clean (field_at body.fields k) (own body.fields (before ++ items (e ∷ [])) k)
    clean_entry before (entry.Fault f) none k c = absurd (not_nil f [] none)
    clean_entry before (entry.Item i) none k c = clean_named before i (item_name i) refl none k c

    clean_walk : (before : List NestedMeta) (es : List Entry) → all_entry_faults setting earlier body before es ≡ [] → (k : ℕ) → Clean (field_at body.fields k) (own body.fields before k) → Clean (field_at body.fields k) (own body.fields (before ++ items es) k)
    clean_walk before [] none k c = let P : List NestedMeta → Type 0 = λ is. Clean (field_at body.fields k) (own body.fields is k) in subst P (sym (append-nil before)) c
    clean_walk before (e ∷ es) none k c =
        let P : List NestedMeta → Type 0 = λ is. Clean (field_at body.fields k) (own body.fields is k) in
        subst P (append_assoc before (items (e ∷ [])) (items es) ∙ ap (λ is. before ++ is) (sym (items-append (e ∷ []) es)))
        (clean_walk (before ++ items (e ∷ [])) es (nil_right (entry_faults setting earlier body before e) (all_entry_faults setting earlier body (before ++ items (e ∷ [])) es) none) k
        (clean_entry before e (nil_left (entry_faults setting earlier body before e) (all_entry_faults setting earlier body (before ++ items (e ∷ [])) es) none) k c))

    pub clean_all : (es : List Entry) → all_entry_faults setting earlier body [] es ≡ [] → (k : ℕ) → Clean (field_at body.fields k) (own body.fields (items es) k)
    clean_all es none k = clean_walk [] es none k tt
