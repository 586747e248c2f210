-- Numbers that don't fall along a list, by recursion.
use Rattle.std.proofs.Common.{◌≡◌, ◌<◌, ◌≤◌, ℕ, zero, suc, List, [], ◌∷◌, ◌++◌, length, map, sym, subst, arith}
use Rattle.std.specs.Prelude.{slice_index_or}
use Rattle.std.specs.List.{AllZip}
use Rattle.std.specs.List.Sorted.{IsNonDecreasingBy}

module _ {X : Type 0} (number : X → ℕ) where
  -- none is below this one, and they don't fall
  abbrev pub Rises : ℕ → List X → Type 0
  Rises least [] = Unit {0}
  Rises least (x ∷ xs) = (least ≤ number x) × Rises (number x) xs

  pub rises_from : (less least : ℕ) (xs : List X) → less ≤ least → Rises least xs → Rises less xs
  rises_from less least [] under rises = tt
  rises_from less least (x ∷ xs) under rises = (omega (arith, under, rises.0), rises.1)

  not_below : (least : ℕ) (xs : List X) (k : ℕ) (d : X) → Rises least xs → k < length xs → least ≤ number (slice_index_or xs k d)
  not_below least [] k d rises within = absurd (omega (arith, within))
  not_below least (x ∷ xs) zero d rises within = rises.0
  not_below least (x ∷ xs) (suc k) d rises within =
      let later = not_below (number x) xs k d rises.1 (omega (arith, within)) in
      omega (arith, rises.0, later)

  pub rises-sorted : (least : ℕ) (xs : List X) → Rises least xs → IsNonDecreasingBy number xs
  rises-sorted least [] rises i j d before within = absurd (omega (arith, within))
  rises-sorted least (x ∷ xs) rises zero zero d before within = omega arith
  rises-sorted least (x ∷ xs) rises zero (suc j) d before within = not_below (number x) xs j d rises.1 (omega (arith, within))
  rises-sorted least (x ∷ xs) rises (suc i) zero d before within = absurd (omega (arith, before))
  rises-sorted least (x ∷ xs) rises (suc i) (suc j) d before within =
      rises-sorted (number x) xs rises.1 i j d (omega (arith, before)) (omega (arith, within))

  -- things of one number in front
  pub rises-map : {Y : Type 0} (make : Y → X) (least : ℕ) → ((y : Y) → number (make y) ≡ least) → (ys : List Y) (xs : List X)
      → Rises least xs → Rises least (map make ys ++ xs)
  rises-map make least same [] xs rises = rises
  rises-map make least same (y ∷ ys) xs rises =
      let under : least ≤ number (make y) = omega (arith, same y) in
      (under, subst (λ n. Rises n (map make ys ++ xs)) (sym (same y)) (rises-map make least same ys xs rises))

-- things whose numbers are those of others
module _ {X Y : Type 0} (R : X → Y → Type 0) (one : X → ℕ) (other : Y → ℕ) (same : (x : X) (y : Y) → R x y → other y ≡ one x) where
  pub rises-zip : (least : ℕ) (xs : List X) (ys : List Y) → AllZip R xs ys → Rises one least xs → Rises other least ys
  rises-zip least [] [] are rises = tt
  rises-zip least [] (y ∷ ys) are rises = absurd are
  rises-zip least (x ∷ xs) [] are rises = absurd are
  rises-zip least (x ∷ xs) (y ∷ ys) are rises =
      let equal = same x y are.0 in
      let under : least ≤ other y = omega (arith, equal, rises.0) in
      (under, rises-zip (other y) xs ys are.1 (subst (λ n. Rises one n xs) (sym equal) rises.1))
