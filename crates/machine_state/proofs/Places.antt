-- The first arm of a name stands at the first place of that name.
use Rattle.std.proofs.Common.{◌≡◌, ◌+◌, ℕ, suc, Bool, true, false, cond, List, [], ◌∷◌, length, Option, Some, None, position, bytes_eq, option_map, map, refl, ap, sym, ◌∙◌, arith}
use Rattle.std.specs.Prelude.{slice_get, option_and_then}
use Rattle.std.specs.List.{find, position_from}
use Rattle.std.specs.Option.{option_copied}
use Rattle.std.specs.Slice.{IsItemAt}
use denote.Ref.{Bor}
use Rattle.std.proofs.lemmas.Iterator.Adapters.{position_from-zero}
use Rattle.std.proofs.lemmas.Option.{slice_get_past, slice_get_read}
use Rattle.base_core.specs.declared.text.Text.{Text}
use Rattle.codegen_program.specs.declared.arm.Arm.{Arm}
use Rattle.machine_read.specs.State.{find_arm}

-- counted from one more, each place is one more
position_from-suc : (test : Text → Bool) (i : ℕ) (names : List Text) → position_from test (suc i) names ≡ option_map suc (position_from test i names)
position_from-suc test i [] = refl
position_from-suc test i (name ∷ names) =
    elim (test name) as (λ b. cond b (Some (suc i)) (position_from test (suc i + 1) names) ≡ option_map suc (cond b (Some i) (position_from test (i + 1) names))) [
      | true ↦ refl
      | false ↦ (let e : suc i + 1 ≡ suc (i + 1) = omega arith in
          ap (λ i. position_from test i names) e ∙ position_from-suc test (i + 1) names)
    ]

-- what a slice lends at a place is what stands there
lent-at : {A : Type 0} (xs : List A) (at : ℕ) (lent : Option (Bor A)) → IsItemAt xs at lent → option_copied lent ≡ slice_get xs at
lent-at xs at None is = sym (slice_get_past xs at is.3)
lent-at xs at (Some it) is = sym (slice_get_read xs (length xs) at it.now refl is.3.0 is.1)

module _ {A : Type 0} (named : A → Text) (name : Text) where
  -- the first of that name
  abbrev first_named : List A → Option A
  first_named xs = find (λ it. bytes_eq (named it) name) xs

  get-suc : (first : A) (xs : List A) (at : Option ℕ) → option_and_then (slice_get (first ∷ xs)) (option_map suc at) ≡ option_and_then (slice_get xs) at
  get-suc first xs None = refl
  get-suc first xs (Some at) = refl

  get-position_from : (xs : List A) → option_and_then (slice_get xs) (position_from (λ other. bytes_eq other name) 0 (map named xs)) ≡ first_named xs
  get-position_from [] = refl
  get-position_from (first ∷ xs) =
      let from : ℕ → Option ℕ = λ i. position_from (λ other. bytes_eq other name) i (map named xs) in
      let get : Option ℕ → Option A = option_and_then (slice_get (first ∷ xs)) in
      elim (bytes_eq (named first) name) as (λ b. get (cond b (Some 0) (from 1)) ≡ cond b (Some first) (first_named xs)) [
        | true ↦ refl
        | false ↦ ap get (position_from-suc (λ other. bytes_eq other name) 0 (map named xs)) ∙ get-suc first xs (from 0) ∙ get-position_from xs
      ]

  -- at the first place of a name stands the first of that name
  get-position : (xs : List A) → option_and_then (slice_get xs) (position (λ other. bytes_eq other name) (map named xs)) ≡ first_named xs
  get-position xs =
      ap (option_and_then (slice_get xs)) (position_from-zero (λ other. bytes_eq other name) (map named xs)) ∙ get-position_from xs

  -- where the name has no place there is none of that name
  pub found-none : (xs : List A) → None ≡ position (λ other. bytes_eq other name) (map named xs) → None ≡ first_named xs
  found-none xs none = ap (option_and_then (slice_get xs)) none ∙ get-position xs

  -- what a slice lends at the place of the name is the first of that name
  pub found-at : (xs : List A) (at : ℕ) (lent : Option (Bor A)) → Some at ≡ position (λ other. bytes_eq other name) (map named xs) → IsItemAt xs at lent
      → option_copied lent ≡ first_named xs
  found-at xs at lent some is = lent-at xs at lent is ∙ ap (option_and_then (slice_get xs)) some ∙ get-position xs

-- the first arm of a name
pub arm-found : (name : Text) (arms : List Arm) → find (λ arm. bytes_eq arm.name name) arms ≡ find_arm arms name
arm-found name [] = refl
arm-found name (arm ∷ arms) = ap (cond (bytes_eq arm.name name) (Some arm)) (arm-found name arms)
