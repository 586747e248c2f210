-- Lists: things at places, and the first that passes a test.
use Rattle.std.proofs.Common.{◌≡◌, ◌∙◌, ◌+◌, ℕ, zero, suc, Bool, true, false, cond, not, nat_lt, List, [], ◌∷◌, flat_map, length, take, position, slice_get, Some, None, Contains, refl, sym, ap, arith}
use Rattle.std.specs.List.{AllByRecursion, list_any, position_or_len}
use Rattle.std.proofs.lemmas.Bool.{cond-false, cond-true, not_from_false, not_from_true, or_from, or_parts}
use Rattle.std.proofs.lemmas.Bool.Decides.{Decides-ltb}
use Rattle.std.proofs.lemmas.Option.{get_or_from_slice_get, none-some, same_Some, slice_get_within}
use mathlib.Core.List.{append-eq-nil_iff}

module _ {A : Type 0} where
  pub contained : (things : List A) (place : ℕ) (thing : A) → slice_get things place ≡ Some thing → Contains things thing
  contained things place thing stands = (place, slice_get_within things place thing stands, get_or_from_slice_get things place thing thing stands)

  pub two_at : (things : List A) (place : ℕ) (one other : A) → slice_get things place ≡ Some one → slice_get things place ≡ Some other → one ≡ other
  two_at things place one other is also = same_Some one other (sym is ∙ also)

module _ {A B : Type 0} (made : A → List B) where
  -- where nothing is made of things, nothing is made of any
  pub none_made : (things : List A) → flat_map made things ≡ [] → AllByRecursion (λ thing. made thing ≡ []) things
  none_made [] none = tt
  none_made (thing ∷ things) none =
      let both = (append-eq-nil_iff {p = made thing} {q = flat_map made things}).0 none in
      (both.0, none_made things both.1)

module _ {A : Type 0} (test : A → Bool) where
  prefix_is : (things : List A) (place : ℕ) (thing : A) → slice_get things place ≡ Some thing → test thing ≡ true
      → list_any test (take place things) ≡ false → position_or_len test things ≡ place
  prefix_is [] place thing stands passes none = absurd (none-some thing stands)
  prefix_is (first ∷ things) zero thing stands passes none =
      cond-false (not (test first)) (1 + position_or_len test things) 0 (not_from_true (test first) (ap test (same_Some first thing stands) ∙ passes))
  prefix_is (first ∷ things) (suc place) thing stands passes none =
      let both = or_parts (test first) (list_any test (take place things)) none in
      let rest : position_or_len test things ≡ place = prefix_is things place thing stands passes both.1 in
      let more : 1 + position_or_len test things ≡ suc place = omega (arith, rest) in
      cond-true (not (test first)) (1 + position_or_len test things) 0 (not_from_false (test first) both.0) ∙ more

  -- the first that passes stands at the place before which none passes
  pub first_at : (things : List A) (place : ℕ) (thing : A) → slice_get things place ≡ Some thing → test thing ≡ true
      → list_any test (take place things) ≡ false → position test things ≡ Some place
  first_at things place thing stands passes none =
      let within : nat_lt place (length things) ≡ true = (Decides-ltb place (length things)).1 (slice_get_within things place thing stands) in
      ap (λ n. cond (nat_lt n (length things)) (Some n) None) (prefix_is things place thing stands passes none)
      ∙ cond-true (nat_lt place (length things)) (Some place) None within

  -- where none at any place passes, none does
  pub none_passes : (things : List A) → ((place : ℕ) (thing : A) → slice_get things place ≡ Some thing → test thing ≡ false) → list_any test things ≡ false
  none_passes [] fails = refl
  none_passes (first ∷ things) fails =
      or_from (test first) (list_any test things) (fails zero first refl) (none_passes things (λ place thing stands. fails (suc place) thing stands))
