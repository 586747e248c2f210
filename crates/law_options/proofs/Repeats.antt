-- Fields of one struct have names that differ, where no name stands twice.
use Rattle.std.proofs.Common.{◌≡◌, ◌∙◌, ◌<◌, ◌+◌, ◌||◌, ℕ, zero, suc, Bool, true, false, List, [], ◌∷◌, ◌++◌, flat_map, take, slice_get, Option, Some, None, refl, sym, ap, ap₂, arith}
use Rattle.std.specs.List.{AllByRecursion, cons_option}
use Rattle.std.specs.Str.{bytes_eq}
use Rattle.std.proofs.lemmas.Bool.{or_parts}
use Rattle.std.proofs.lemmas.Option.{none-some, same_Some}
use mathlib.Core.List.{append-eq-nil_iff}
use Rattle.base_core.specs.declared.text.Text.{Text}
use Rattle.tok_types.specs.declared.ident.Ident.{Ident}
use Rattle.tok_types.specs.declared.span.Span.{Span}
use Rattle.node_core.specs.declared.data.Field.{Field}
use Rattle.node_core.specs.declared.data.«Data».{«Data»}
use Rattle.node_core.specs.declared.data.«Data».TheVariants as body
use Rattle.node_core.specs.declared.derive.DeriveInput.{DeriveInput}
use Rattle.machine_steps.specs.Decls.{decl_names}
use Rattle.machine_forms.specs.Names.{field_names, has_name, repeated_field, repeated_fields, repeated_members, repeated_names}
use Rattle.machine_forms.specs.Places.{places_from, refused_if}
use Rattle.run_accepted.specs.Accepted.{derives_named_again, duplicate}
use Rattle.run_accepted.specs.Members.{body_fields}
use Rattle.run_accepted.specs.Unbuilt.{has_named_fields}
use Rattle.run_accepted.proofs.PlaceLemmas.{none_first}

-- where no thing has a place in the text, the one of this number has none
module _ {A B : Type 0} (places_of : ℕ → A → List B) where
  pub none_at : (at : ℕ) (things : List A) → places_from places_of at things ≡ [] → (place number : ℕ) (thing : A) → number ≡ at + place
      → slice_get things place ≡ Some thing → places_of number thing ≡ []
  none_at at [] none place number thing is stands = absurd (none-some thing stands)
  none_at at (first ∷ things) none zero number thing is stands =
      let both = (append-eq-nil_iff {p = places_of at first} {q = places_from places_of (at + 1) things}).0 none in
      let same : number ≡ at = omega (arith, is) in
      ap₂ places_of same (sym (same_Some first thing stands)) ∙ both.0
  none_at at (first ∷ things) none (suc place) number thing is stands =
      let both = (append-eq-nil_iff {p = places_of at first} {q = places_from places_of (at + 1) things}).0 none in
      let next : number ≡ at + 1 + place = omega (arith, is) in
      none_at (at + 1) things both.1 place number thing next stands

pub none_refused : {A : Type 0} (test : Bool) (place : A) → refused_if test place ≡ [] → test ≡ false
none_refused true place none = cc
none_refused false place none = refl

-- what a declaration of this number repeats
abbrev repeats : List DeriveInput → ℕ → DeriveInput → List Span
repeats decls number decl = refused_if (false || has_name (decl_names (take number decls)) decl.ident.text) decl.ident.span ++ repeated_members decl.body

module _ (decls : List DeriveInput) (single : repeated_names decls ≡ []) (number : ℕ) (decl : DeriveInput) (stands : slice_get decls number ≡ Some decl) where
  repeats_none : repeats decls number decl ≡ []
  repeats_none = let is : number ≡ 0 + number = omega arith in none_at (repeats decls) 0 decls single number number decl is stands

  -- its name is that of none before it, and its members repeat no name
  pub both_single : (refused_if (has_name (decl_names (take number decls)) decl.ident.text) decl.ident.span ≡ []) × (repeated_members decl.body ≡ [])
  both_single =
      (append-eq-nil_iff {p = refused_if (has_name (decl_names (take number decls)) decl.ident.text) decl.ident.span} {q = repeated_members decl.body}).0 repeats_none

-- no name stands twice among declarations that are accepted
pub names_single : (decls : List DeriveInput) → duplicate decls ≡ None → repeated_names decls ≡ []
names_single decls single =
    let all = none_first (λ (span : Span). span) (flat_map derives_named_again decls ++ repeated_names decls) single in
    ((append-eq-nil_iff {p = flat_map derives_named_again decls} {q = repeated_names decls}).0 all).1

-- ---- fields

-- a field that stands before so many has none of the names that no field before them has
pub not_named : (name : Text) (one : Ident) (its : List Field) (place count : ℕ) (field : Field) → place < count → slice_get its place ≡ Some field
    → field.ident ≡ Some one → has_name (field_names (take count its)) name ≡ false → bytes_eq one.text name ≡ false
not_named name one [] place count field lt stands is none = absurd (none-some field stands)
not_named name one (first ∷ its) place zero field lt stands is none = let bad : ⊥ = omega (arith, lt) in absurd bad
not_named name one (first ∷ its) zero (suc count) field lt stands is none =
    let ident : first.ident ≡ Some one = ap (λ (it : Field). it.ident) (same_Some first field stands) ∙ is in
    let none_of : has_name (cons_option (Some one) (field_names (take count its))) name ≡ false =
    ap (λ own. has_name (cons_option own (field_names (take count its))) name) (sym ident) ∙ none in
    (or_parts (bytes_eq one.text name) (has_name (field_names (take count its)) name) none_of).0
not_named name one (first ∷ its) (suc place) (suc count) field lt stands is none =
    not_named name one its place count field (omega (arith, lt)) stands is (behind first.ident none)
  where
    behind : (own : Option Ident) → has_name (cons_option own (field_names (take count its))) name ≡ false → has_name (field_names (take count its)) name ≡ false
    behind None none = none
    behind (Some ident) none = (or_parts (bytes_eq ident.text name) (has_name (field_names (take count its)) name) none).1

-- the fields have other names, where both have one
abbrev pub AreApart : Field → Field → Type 0
AreApart field later = (one other : Ident) → field.ident ≡ Some one → later.ident ≡ Some other → bytes_eq one.text other.text ≡ false

-- each field is so beside those behind it
abbrev pub Pairwise : (Field → Field → Type 0) → List Field → Type 0
Pairwise R [] = Unit {0}
Pairwise R (field ∷ fields) = AllByRecursion (R field) fields × Pairwise R fields

pub all_behind : (P : Field → Type 0) (fields : List Field) → ((place : ℕ) (field : Field) → slice_get fields place ≡ Some field → P field) → AllByRecursion P fields
all_behind P [] each = tt
all_behind P (field ∷ fields) each = (each zero field refl, all_behind P fields (λ place field stands. each (suc place) field stands))

pairwise_by : (R : Field → Field → Type 0) (fields : List Field)
    → ((place later : ℕ) (one other : Field) → place < later → slice_get fields place ≡ Some one → slice_get fields later ≡ Some other → R one other)
    → Pairwise R fields
pairwise_by R [] each = tt
pairwise_by R (field ∷ fields) each = (
  all_behind (R field) fields (λ place other stands. each zero (suc place) field other (omega arith) refl stands),
  pairwise_by R fields (λ place later one other lt stands behind. each (suc place) (suc later) one other (omega (arith, lt)) stands behind),
)

pub all_apart : (fields : List Field) → repeated_fields fields ≡ [] → Pairwise AreApart fields
all_apart fields single =
    pairwise_by AreApart fields
    (λ place later field other lt stands behind one second is also.
    let here : later ≡ 0 + later = omega arith in
    let none = none_at (λ number (it : Field). repeated_field (has_name (field_names (take number fields))) it.ident) 0 fields single later later other here behind in
    let known : refused_if (has_name (field_names (take later fields)) second.text) second.span ≡ [] =
    ap (λ ident. repeated_field (has_name (field_names (take later fields))) ident) (sym also) ∙ none in
    not_named second.text one fields place later field lt stands is (none_refused (has_name (field_names (take later fields)) second.text) second.span known))

-- the fields of a struct
pub of_struct : (it : «Data») → has_named_fields it ≡ true → repeated_members it ≡ [] → repeated_fields (body_fields it) ≡ []
of_struct (body.Struct it) is single = single
of_struct (body.Enum it) is single = cc
of_struct (body.Union it) is single = cc
