-- Places sorted by the names that stand there, and then by themselves.
use mathlib.Core.Bool.{Bool-set}
use native.Mathlib.Bridge.{le_prop}
use native.Mathlib.Nat.{ℕ_set}
use Rattle.std.specs.Prelude.{◌≡◌, ◌<◌, ◌≤◌, ◌==◌, ℕ, Bool, true, false, ◌+◌, List, [], ◌∷◌, length, get_or}
use Rattle.std.specs.List.{list_any}
use Rattle.std.specs.Ordering.{is_lt, is_gt, nat_cmp, ordering_then}
use Rattle.std.specs.Cmp.Lexicographic.{slice_cmp}
use Rattle.std.specs.Str.{bytes_eq}
use Rattle.base_core.specs.declared.text.Text.{Text}

-- the place that stands there in the order, and its name
abbrev pub place_at : List ℕ → ℕ → ℕ
place_at places i = get_or places i 0

abbrev pub name_at : List ℕ → List Text → ℕ → Text
name_at places names i = get_or names (place_at places i) []

-- whether the name there stands before this one in the order of bytes
abbrev pub below_at : List ℕ → List Text → List ℕ → ℕ → Bool
below_at places names name i = is_lt (slice_cmp nat_cmp (name_at places names i) name)

abbrev pub same_at : List ℕ → List Text → List ℕ → ℕ → Bool
same_at places names name i = bytes_eq (name_at places names i) name

-- the places of all names, in order
pub record IsIndex (places : List ℕ) (names : List Text) : Type 0 where
  pub all : length places ≡ length names
  pub below : (i : ℕ) → i < length places → place_at places i < length names
  pub every : (k : ℕ) → k < length names → list_any (λ place. place == k) places ≡ true
  pub order : (i j : ℕ) → i ≤ j → j < length places
      → is_gt (ordering_then (slice_cmp nat_cmp (name_at places names i) (name_at places names j)) (nat_cmp (place_at places i) (place_at places j))) ≡ false

-- it tells nothing but that it is so
pub IsIndex-prop : (places : List ℕ) (names : List Text) → IsProp (IsIndex places names)
IsIndex-prop places names p q = λ i. record {
  all = ℕ_set _ _ p.all q.all i;
  below = λ k h. le_prop (p.below k h) (q.below k h) i;
  every = λ k h. Bool-set _ _ (p.every k h) (q.every k h) i;
  order = λ k l up h. Bool-set _ _ (p.order k l up h) (q.order k l up h) i;
}

-- each name with its place, counted from here
abbrev pub indexed : ℕ → List Text → List (Text × ℕ)
indexed at [] = []
indexed at (name ∷ names) = (name, at) ∷ indexed (at + 1) names
