-- A name that is put into a set is found there as it was put in, and the others as before.
use Rattle.std.proofs.Common.{◌≡◌, refl, ap, sym, ◌∙◌, Bool, true, false, true≢false, cond, List, [], ◌∷◌, ◌++◌, Option, None, Some, map, subst}
use Rattle.std.specs.Prelude.{◌||◌, not}
use mathlib.Core.Path.{fun_ext}
use Rattle.std.specs.Cmp.{IsEquivalence}
use Rattle.std.specs.List.{IsDistinct, find, list_any}
use Rattle.std.specs.Map.{keys_of, lookup}
use Rattle.std.specs.Option.{option_or}
use Rattle.std.specs.HashSet.{HashSet, IsUnique, PutsKey, contains, get}
use Rattle.std.proofs.lemmas.List.Sorted.{IsPermutation-map, IsPermutation-sym}
use Rattle.meta_core.proofs.Moved.{lookup-moved}

-- each name as its own value
abbrev paired : {K : Type 0} → List K → List (K × K)
paired names = map (λ name. (name, name)) names

lookup-paired : {K : Type 0} (test : K → Bool) (names : List K) → lookup test (paired names) ≡ find test names
lookup-paired test [] = refl
lookup-paired test (name ∷ names) = ap (cond (test name) (Some name)) (lookup-paired test names)

keys-paired : {K : Type 0} (names : List K) → keys_of (paired names) ≡ names
keys-paired [] = refl
keys-paired (name ∷ names) = ap (λ names. name ∷ names) (keys-paired names)

pub or-none : {K : Type 0} (found : Option K) → found ≡ option_or found None
or-none None = refl
or-none (Some name) = refl

-- nothing is found where no name passes
found-none : {K : Type 0} (test : K → Bool) (names : List K) → list_any test names ≡ false → find test names ≡ None
found-none test [] is = refl
found-none test (name ∷ names) is =
    elim (test name) as (λ passes. (passes || list_any test names) ≡ false → cond passes (Some name) (find test names) ≡ None)
    [ true ↦ (λ never. absurd (true≢false never)) | false ↦ found-none test names ]
    is

-- a name that is found wins over another
found-some : {K : Type 0} (test : K → Bool) (names : List K) (other : Option K) → list_any test names ≡ true → find test names ≡ option_or (find test names) other
found-some test [] other is = absurd (true≢false (sym is))
found-some test (name ∷ names) other is =
    elim (test name) as (λ passes. (passes || list_any test names) ≡ true → cond passes (Some name) (find test names) ≡ option_or (cond passes (Some name) (find test names)) other)
    [ true ↦ (λ _. refl) | false ↦ found-some test names other ]
    is

negated : (b : Bool) → false ≡ not b → b ≡ true
negated true is = refl
negated false is = absurd (true≢false (sym is))

not_negated : (b : Bool) → true ≡ not b → b ≡ false
not_negated false is = refl
not_negated true is = absurd (true≢false is)

module _ {K H : Type 0} {eq : K → K → Bool} (laws : IsEquivalence eq) (old new : HashSet K H) (key : K) (unique : IsUnique eq new) where
  alike : (query : K) → eq query key ≡ true → list_any (eq query) old.keys ≡ list_any (eq key) old.keys
  alike query same = ap (λ test. list_any test old.keys) (fun_ext (λ other. laws.congr query key other same))

  added : (query : K) (same : Bool) → eq query key ≡ same → (same ≡ true → find (eq query) old.keys ≡ None)
      → cond same (Some key) (find (eq query) old.keys) ≡ option_or (find (eq query) old.keys) (cond same (Some key) None)
  added query true is none = sym (ap (λ found. option_or found (Some key)) (none refl))
  added query false is none = or-none (find (eq query) old.keys)

  stays : (query : K) (same : Bool) → (same ≡ true → list_any (eq query) old.keys ≡ true)
      → find (eq query) old.keys ≡ option_or (find (eq query) old.keys) (cond same (Some key) None)
  stays query true there = found-some (eq query) old.keys (Some key) (there refl)
  stays query false there = or-none (find (eq query) old.keys)

  pub stored-put : (is_new : Bool) → is_new ≡ not (contains eq old key) → PutsKey old new key is_new
      → (query : K) → get eq new query ≡ option_or (get eq old query) (cond (eq query key) (Some key) None)
  stored-put true known puts query =
      let absent = not_negated (list_any (eq key) old.keys) known in
      let moves = IsPermutation-sym _ _ (IsPermutation-map (λ name. (name, name)) (key ∷ old.keys) new.keys puts) in
      sym (lookup-paired (eq query) new.keys)
      ∙ sym (lookup-moved laws query (paired new.keys) (paired (key ∷ old.keys)) moves (subst (IsDistinct eq) (sym (keys-paired new.keys)) unique))
      ∙ lookup-paired (eq query) (key ∷ old.keys)
      ∙ added query (eq query key) refl (λ same. found-none (eq query) old.keys (alike query same ∙ absent))
  stored-put false known puts query =
      let there = negated (list_any (eq key) old.keys) known in
      ap (find (eq query)) puts ∙ stays query (eq query key) (λ same. alike query same ∙ there)

-- keys are equal as what is seen of them is
pub equality-seen : {K S : Type 0} {eq : K → K → Bool} {same : S → S → Bool} {see : K → S} → IsEquivalence same → ((a b : K) → eq a b ≡ same (see a) (see b)) → IsEquivalence eq
equality-seen {see = see} laws is = record {
  refl = λ a. is a a ∙ laws.refl (see a);
  symm = λ a b. is a b ∙ laws.symm (see a) (see b) ∙ sym (is b a);
  congr = λ a b c alike. is a c ∙ laws.congr (see a) (see b) (see c) (sym (is a b) ∙ alike) ∙ sym (is b c);
}

-- what is found in two lists, one behind the other
pub find-append : {K : Type 0} (test : K → Bool) (first second : List K) → find test (first ++ second) ≡ option_or (find test first) (find test second)
find-append test [] second = refl
find-append test (name ∷ names) second =
    elim (test name) as (λ passes. cond passes (Some name) (find test (names ++ second)) ≡ option_or (cond passes (Some name) (find test names)) (find test second))
    [ true ↦ refl | false ↦ find-append test names second ]

pub option_or-regroup : {K : Type 0} (a b c : Option K) → option_or a (option_or b c) ≡ option_or (option_or a b) c
option_or-regroup None b c = refl
option_or-regroup (Some name) b c = refl
