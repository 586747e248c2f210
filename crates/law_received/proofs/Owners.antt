-- Which field owns an item, by its number and by its name.
use Rattle.std.proofs.Common.{◌≡◌, ◌∙◌, ℕ, zero, suc, Bool, true, false, ◌||◌, cond, List, [], ◌∷◌, Option, None, Some, option_map, option_and_then, filter, refl, sym, ap, ap₂, bytes_eq}
use Rattle.std.proofs.Math.Dec.{eqb-suc-suc, eqb-suc-zero, eqb-zero-suc}
use Rattle.std.proofs.lemmas.List.Elements.{filter_agree}
use Rattle.std.proofs.lemmas.Slice.Eq.{bytes_eq-Decides}
use Rattle.base_core.specs.declared.text.Text.{Text}
use Rattle.meta_nested.specs.declared.nested.NestedMeta.{NestedMeta}
use Rattle.meta_nested.specs.declared.nested.NestedMeta.TheVariants as nested
use Rattle.machine_steps.specs.Setting.{Setting}
use Rattle.machine_steps.specs.Convert.{Earlier}
use Rattle.machine_steps.specs.Names as machine
use Rattle.meaning_core.specs.Decl.{BodyDecl, FieldDecl}
use Rattle.meaning_core.specs.Owners.{has_this_name, is_this, owner, owner_named}
use Rattle.meaning_core.specs.Owners as owners
use Rattle.meaning_core.proofs.Filters.{same as is_owner}
use Rattle.receive_core.specs.Checks.{Checks}
use Rattle.receive_core.specs.Meaning.{names_of}
use Rattle.receive_core.specs.Names.{is_among, is_named as has_name, is_this_name, item_name, own}
use Rattle.law_received.specs.Agreement.{AreDistinct, AreFields, IsField}

pub same_name : (item : NestedMeta) → machine.item_name item ≡ item_name item
same_name (nested.Meta it) = refl
same_name (nested.Lit it) = refl
same_name (nested.NameValueInvalidExpr it) = refl

pub both_false : (a b : Bool) → (a || b) ≡ false → (a ≡ false) × (b ≡ false)
both_false true b is = absurd (cc is)
both_false false b is = (refl, is)

-- ---- numbers

next_this : (n : ℕ) (o : Option ℕ) → is_this (suc n) (option_map suc o) ≡ is_this n o
next_this n None = refl
next_this n (Some k) = eqb-suc-suc k n

zero_next : (o : Option ℕ) → is_this zero (option_map suc o) ≡ false
zero_next None = refl
zero_next (Some k) = eqb-suc-zero k

-- ---- owners

-- each number is that of the owner exactly where its field has the name
abbrev pub OwnsBy : List Checks → Option Text → (ℕ → Bool) → Type 0
OwnsBy [] name p = Unit {0}
OwnsBy (checks ∷ more) name p = (p zero ≡ is_this_name checks.name name) × OwnsBy more name (λ n. p (suc n))

owns_none : (fields : List Checks) (p : ℕ → Bool) → ((n : ℕ) → p n ≡ false) → OwnsBy fields None p
owns_none [] p is = tt
owns_none (checks ∷ more) p is = (is zero, owns_none more (λ n. p (suc n)) (λ n. is (suc n)))

owns_other : (fields : List Checks) (name : Text) (p : ℕ → Bool) → is_among (names_of fields) name ≡ false → ((n : ℕ) → p n ≡ false)
    → OwnsBy fields (Some name) p
owns_other [] name p out is = tt
owns_other (checks ∷ more) name p out is =
    let parts = both_false (bytes_eq checks.name name) (is_among (names_of more) name) out in
    (is zero ∙ sym parts.0, owns_other more name (λ n. p (suc n)) parts.1 (λ n. is (suc n)))

owns_same : (fields : List Checks) (name : Option Text) (p q : ℕ → Bool) → ((n : ℕ) → p n ≡ q n) → OwnsBy fields name q → OwnsBy fields name p
owns_same [] name p q same is = tt
owns_same (checks ∷ more) name p q same is = (same zero ∙ is.0, owns_same more name (λ n. p (suc n)) (λ n. q (suc n)) (λ n. same (suc n)) is.1)

module _ (setting : Setting) (earlier : Earlier) (body : BodyDecl) where
  pub has_same_name : (checks : Checks) (field : FieldDecl) (name : Text) → IsField setting earlier body checks field
      → has_this_name field name ≡ bytes_eq checks.name name
  has_same_name checks field name is =
      ap₂ (λ b n. cond b (bytes_eq n name) false) is.named is.name

  owns_first : (checks : Checks) (more : List Checks) (fields : List FieldDecl) (name : Text) (b : Bool) → bytes_eq checks.name name ≡ b
      → is_among (names_of more) checks.name ≡ false
      → OwnsBy more (Some name) (λ n. is_this n (owner_named fields name))
      → OwnsBy (checks ∷ more) (Some name) (λ n. is_this n (cond b (Some zero) (option_map suc (owner_named fields name))))
  owns_first checks more fields name true e out is =
      let same : checks.name ≡ name = (bytes_eq-Decides checks.name name).0 e in
      (is_owner zero ∙ sym e, owns_other more name (λ n. is_this (suc n) (Some zero)) (ap (is_among (names_of more)) (sym same) ∙ out) eqb-zero-suc)
  owns_first checks more fields name false e out is = (
    zero_next (owner_named fields name) ∙ sym e,
    owns_same more (Some name) (λ n. is_this (suc n) (option_map suc (owner_named fields name))) (λ n. is_this n (owner_named fields name))
        (λ n. next_this n (owner_named fields name)) is,
  )

  owns_name : (checks : List Checks) (fields : List FieldDecl) → AreFields setting earlier body checks fields → AreDistinct (names_of checks)
      → (name : Text) → OwnsBy checks (Some name) (λ n. is_this n (owner_named fields name))
  owns_name [] fields are differ name = tt
  owns_name (first ∷ more) [] are differ name = absurd are
  owns_name (first ∷ more) (field ∷ fields) are differ name =
      owns_same (first ∷ more) (Some name)
      (λ n. is_this n (owner_named (field ∷ fields) name))
      (λ n. is_this n (cond (bytes_eq first.name name) (Some zero) (option_map suc (owner_named fields name))))
      (λ n. ap (λ b. is_this n (cond b (Some zero) (option_map suc (owner_named fields name)))) (has_same_name first field name are.0))
      (owns_first first more fields name (bytes_eq first.name name) refl differ.0 (owns_name more fields are.1 differ.1 name))

  owns : (checks : List Checks) (fields : List FieldDecl) → AreFields setting earlier body checks fields → AreDistinct (names_of checks)
      → (name : Option Text) → OwnsBy checks name (λ n. is_this n (option_and_then (owner_named fields) name))
  owns checks fields are differ None = owns_none checks (λ n. false) (λ n. refl)
  owns checks fields are differ (Some name) = owns_name checks fields are differ name

  -- the items of each number are those of the name
  abbrev pub OwnsItems : List Checks → List NestedMeta → (ℕ → List NestedMeta) → Type 0
  OwnsItems [] items own_items = Unit {0}
  OwnsItems (checks ∷ more) items own_items = (own_items zero ≡ own checks.name items) × OwnsItems more items (λ n. own_items (suc n))

  owns_items_by : (checks : List Checks) (p : ℕ → NestedMeta → Bool) → ((item : NestedMeta) → OwnsBy checks (item_name item) (λ n. p n item))
      → (items : List NestedMeta) → OwnsItems checks items (λ n. filter (p n) items)
  owns_items_by [] p is items = tt
  owns_items_by (checks ∷ more) p is items = (
    filter_agree (p zero) (has_name checks.name) (λ item. (is item).0) items,
    owns_items_by more (λ n. p (suc n)) (λ item. (is item).1) items,
  )

  pub owns_items : (checks : List Checks) (fields : List FieldDecl) → AreFields setting earlier body checks fields → AreDistinct (names_of checks)
      → (items : List NestedMeta) → OwnsItems checks items (owners.own fields items)
  owns_items checks fields are differ items =
      owns_items_by checks (λ n item. is_this n (owner fields item))
      (λ item. owns_same checks (item_name item) (λ n. is_this n (owner fields item)) (λ n. is_this n (option_and_then (owner_named fields) (item_name item)))
      (λ n. ap (λ o. is_this n (option_and_then (owner_named fields) o)) (same_name item))
      (owns checks fields are differ (item_name item)))
      items
