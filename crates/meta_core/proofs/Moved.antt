-- What is found in a list of entries whose keys differ, however they are ordered.
use Rattle.std.proofs.Common.{◌≡◌, refl, ap, sym, ◌∙◌, Bool, cond, List, [], ◌∷◌, Option, None, Some, map, subst}
use mathlib.Core.Path.{fun_ext}
use Rattle.std.specs.Cmp.{IsEquivalence}
use Rattle.std.specs.List.{IsDistinct, Contains}
use Rattle.std.specs.List.Sorted.{IsPermutation}
use Rattle.std.specs.Map.{keys_of, lookup, lookup_entry}
use Rattle.std.proofs.lemmas.Map.Entries.{place_from_lookup}
use Rattle.std.proofs.lemmas.Map.Views.{lookup-from_Contains}
use Rattle.std.proofs.lemmas.Map.Keys.{IsDistinct-IsPermutation}
use Rattle.std.proofs.lemmas.List.Sorted.{Contains-permutation, IsPermutation-map, IsPermutation-sym}
use Rattle.std.proofs.lemmas.Option.{slice_get_within, get_or_from_slice_get}

module _ {K X : Type 0} {eq : K → K → Bool} (laws : IsEquivalence eq) where
  -- what a look-up finds is found in each order
  some-moved : (query : K) (old new : List (K × X)) (value : X) → IsPermutation old new → IsDistinct eq (keys_of new)
      → lookup (eq query) old ≡ Some value → lookup (eq query) new ≡ Some value
  some-moved query old new value moves distinct found =
      let place = place_from_lookup (eq query) old value found in
      let there : K × X = (place.1, value) in
      let in_old : Contains old there = (place.0, slice_get_within old place.0 there place.2, get_or_from_slice_get old place.0 there there place.2) in
      ap (λ test. lookup test new) (fun_ext (λ other. laws.congr query place.1 other place.3))
      ∙ lookup-from_Contains laws place.1 value new distinct (Contains-permutation old new there moves in_old)

  same-either : (query : K) (old new : List (K × X)) → IsPermutation old new → IsDistinct eq (keys_of old) → IsDistinct eq (keys_of new)
      → (a b : Option X) → lookup (eq query) old ≡ a → lookup (eq query) new ≡ b → b ≡ a
  same-either query old new moves before after (Some value) b is_old is_new = sym is_new ∙ some-moved query old new value moves after is_old
  same-either query old new moves before after None None is_old is_new = refl
  same-either query old new moves before after None (Some value) is_old is_new =
      let found = some-moved query new old value (IsPermutation-sym old new moves) before is_new in
      let never : ⊥ = cc in
      absurd never

  -- the same is found in each order
  pub lookup-moved : (query : K) (old new : List (K × X)) → IsPermutation old new → IsDistinct eq (keys_of old) → lookup (eq query) new ≡ lookup (eq query) old
  lookup-moved query old new moves before =
      let after = IsDistinct-IsPermutation eq laws.symm (keys_of old) (keys_of new) (IsPermutation-map (λ entry. entry.0) old new moves) before in
      same-either query old new moves before after (lookup (eq query) old) (lookup (eq query) new) refl refl

-- each entry as the value of its key
abbrev doubled : {K X : Type 0} → List (K × X) → List (K × (K × X))
doubled entries = map (λ entry. (entry.0, entry)) entries

lookup-doubled : {K X : Type 0} (test : K → Bool) (entries : List (K × X)) → lookup test (doubled entries) ≡ lookup_entry test entries
lookup-doubled test [] = refl
lookup-doubled test (entry ∷ entries) = ap (cond (test entry.0) (Some entry)) (lookup-doubled test entries)

keys-doubled : {K X : Type 0} (entries : List (K × X)) → keys_of (doubled entries) ≡ keys_of entries
keys-doubled [] = refl
keys-doubled (entry ∷ entries) = ap (λ keys. entry.0 ∷ keys) (keys-doubled entries)

module _ {K X : Type 0} {eq : K → K → Bool} (laws : IsEquivalence eq) where
  -- the same entry is found in each order
  pub entry-moved : (query : K) (old new : List (K × X)) → IsPermutation old new → IsDistinct eq (keys_of old) → lookup_entry (eq query) new ≡ lookup_entry (eq query) old
  entry-moved query old new moves distinct =
      sym (lookup-doubled (eq query) new)
      ∙ lookup-moved laws query (doubled old) (doubled new) (IsPermutation-map (λ entry. (entry.0, entry)) old new moves) (subst (IsDistinct eq) (sym (keys-doubled old)) distinct)
      ∙ lookup-doubled (eq query) old
