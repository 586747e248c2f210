-- A flattened field owns no item, so it stands as a single field without one.
use Rattle.std.proofs.Common.{◌≡◌, ℕ, zero, suc, Bool, true, false, cond, List, [], ◌∷◌, Option, Some, None, option_and_then, filter, refl, ap, ap₂, ◌∙◌, sym, ⊎_elim, true≢false}
use Rattle.std.proofs.lemmas.Bool.Decides.{eqb_tells}
use Rattle.base_core.specs.declared.text.Text.{Text}
use Rattle.machine_steps.specs.Names.{item_name}
use Rattle.machine_steps.specs.NestedMeta.{NestedMeta}
use Rattle.meaning_core.specs.Decl.{Shape, Single, Many, Flat, FieldDecl, is_named, is_named_by}
use Rattle.meaning_core.specs.Owners.{each, field_at, is_this, own, owner, owner_named}
use Rattle.meaning_core.proofs.Filters.{OnOwner, owner_on}

-- the items that are read one by one
abbrev pub items_in : Shape → List NestedMeta → List NestedMeta
items_in Single own_items = own_items
items_in Many own_items = own_items
items_in Flat own_items = []

filter_false : {A : Type 0} (p : A → Bool) (xs : List A) → ((x : A) → p x ≡ false) → filter p xs ≡ []
filter_false p [] none = refl
filter_false p (x ∷ xs) none = ap (λ b. cond b (x ∷ filter p xs) (filter p xs)) (none x) ∙ filter_false p xs none

not_this : (fs : List FieldDecl) (k : ℕ) (o : Option ℕ) → OnOwner fs o → is_named (field_at fs k) ≡ false → is_this k o ≡ false
not_this fs k None on e = refl
not_this fs k (Some j) on e =
    ⊎_elim (λ q. absurd (true≢false (sym on.1 ∙ ap (λ x. is_named (field_at fs x)) q.1 ∙ e))) (λ q. q.0) (eqb_tells j k)

on_name : (fs : List FieldDecl) (n : Option Text) → OnOwner fs (option_and_then (owner_named fs) n)
on_name fs None = tt
on_name fs (Some n) = owner_on fs n

own_by : (fs : List FieldDecl) (is : List NestedMeta) (k : ℕ) (s : Shape) → is_named_by s (field_at fs k).skip ≡ is_named (field_at fs k) → items_in s (own fs is k) ≡ own fs is k
own_by fs is k Single e = refl
own_by fs is k Many e = refl
own_by fs is k Flat e = sym (filter_false (λ i. is_this k (owner fs i)) is (λ i. not_this fs k (owner fs i) (on_name fs (item_name i)) (sym e)))

pub own_items_in : (fs : List FieldDecl) (is : List NestedMeta) (k : ℕ) → items_in (field_at fs k).shape (own fs is k) ≡ own fs is k
own_items_in fs is k = own_by fs is k (field_at fs k).shape refl

-- the same of each field
pub each_same : {A : Type 0} (g h : FieldDecl → List NestedMeta → A) (fs : List FieldDecl) (own_items : ℕ → List NestedMeta)
    → ((k : ℕ) → g (field_at fs k) (own_items k) ≡ h (field_at fs k) (own_items k)) → each g fs own_items ≡ each h fs own_items
each_same g h [] own_items e = refl
each_same g h (f ∷ fs) own_items e = ap₂ (λ x xs. x ∷ xs) (e zero) (each_same g h fs (λ k. own_items (suc k)) (λ k. e (suc k)))
