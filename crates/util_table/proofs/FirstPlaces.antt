-- The first place at which a test passes, in a list that grows.
use Rattle.std.proofs.Common.{◌≡◌, ◌<◌, ◌+◌, ℕ, suc, Bool, true, false, cond, List, [], ◌∷◌, ◌++◌, length, take, get_or, Option, Some, None, position, option_and_then, slice_get, find, ltb, refl, ap, sym, ◌∙◌, arith, zero-add}
use Rattle.std.specs.List.{position_from, position_or_len}
use Rattle.std.specs.Option.{option_or}
use Rattle.std.proofs.lemmas.Iterator.Adapters.{position_from-zero}
use Rattle.std.proofs.lemmas.List.{take_more, length-take-le}
use Rattle.std.proofs.lemmas.List.Folds.{find_at}
use Rattle.std.proofs.lemmas.Option.{slice_get_past}
use Rattle.util_table.specs.Places.{or_at}

pub option_or-none : {X : Type 0} (found : Option X) → option_or found None ≡ found
option_or-none None = refl
option_or-none (Some at) = refl

module _ {X : Type 0} (test : X → Bool) where
  position_from-append : (i : ℕ) (xs ys : List X)
      → position_from test i (xs ++ ys) ≡ option_or (position_from test i xs) (position_from test (i + length xs) ys)
  position_from-append i [] ys = let e : i ≡ i + 0 = omega arith in ap (λ k. position_from test k ys) e
  position_from-append i (x ∷ xs) ys =
      elim (test x) as (λ b. cond b (Some i) (position_from test (i + 1) (xs ++ ys))
      ≡ option_or (cond b (Some i) (position_from test (i + 1) xs)) (position_from test (i + suc (length xs)) ys)) [
        | true ↦ refl
        | false ↦ (let e : (i + 1) + length xs ≡ i + suc (length xs) = omega arith in
            position_from-append (i + 1) xs ys ∙ ap (λ k. option_or (position_from test (i + 1) xs) (position_from test k ys)) e)
      ]

  position-append : (xs ys : List X) → position test (xs ++ ys) ≡ option_or (position test xs) (position_from test (length xs) ys)
  position-append xs ys =
      position_from-zero test (xs ++ ys) ∙ position_from-append 0 xs ys
      ∙ ap (λ k. option_or (position_from test 0 xs) (position_from test k ys)) (zero-add (length xs))
      ∙ ap (λ found. option_or found (position_from test (length xs) ys)) (sym (position_from-zero test xs))

  -- one more at the end
  pub position-push : (xs : List X) (x : X) → position test (xs ++ x ∷ []) ≡ or_at (position test xs) (test x) (length xs)
  position-push xs x = position-append xs (x ∷ [])

  -- the first that passes
  pub position-found : (xs : List X) (x : X) (rest : List X) → position test xs ≡ None → test x ≡ true
      → position test (xs ++ x ∷ rest) ≡ Some (length xs)
  position-found xs x rest none passes =
      position-append xs (x ∷ rest)
      ∙ ap (λ found. option_or found (position_from test (length xs) (x ∷ rest))) none
      ∙ ap (λ b. cond b (Some (length xs)) (position_from test (length xs + 1) rest)) passes

  -- one more of a list that is taken item by item
  pub position-more : (xs : List X) (i : ℕ) (x : X) → i < length xs → x ≡ get_or xs i x
      → position test (take (i + 1) xs) ≡ or_at (position test (take i xs)) (test x) i
  position-more xs i x within is =
      let more : take (i + 1) xs ≡ take i xs ++ x ∷ [] = take_more xs i x within ∙ ap (λ last. take i xs ++ last ∷ []) (sym is) in
      ap (position test) more ∙ position-push (take i xs) x
      ∙ ap (or_at (position test (take i xs)) (test x)) (length-take-le i xs (omega (arith, within)))

  -- what stands at the first place
  pub find_by_position : (xs : List X) → find test xs ≡ option_and_then (slice_get xs) (position test xs)
  find_by_position xs = find_at test xs ∙ by (ltb (position_or_len test xs) (length xs)) refl
    where
      by : (b : Bool) → ltb (position_or_len test xs) (length xs) ≡ b
          → slice_get xs (position_or_len test xs) ≡ option_and_then (slice_get xs) (cond b (Some (position_or_len test xs)) None)
      by true e = refl
      by false e = slice_get_past xs (position_or_len test xs) (grind (arith, e))
