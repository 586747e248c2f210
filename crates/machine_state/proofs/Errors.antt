-- An error of faults, one after another.
use Rattle.std.proofs.Common.{◌≡◌, ◌≢◌, ◌<◌, List, [], ◌∷◌, ◌++◌, length, append-nil, map, flat_map, IfOk, Result, Ok, Err, refl, ap, arith, ◌∙◌}
use Rattle.error_fault.specs.declared.fault.Fault.{Fault}
use Rattle.error_core.specs.ErrorView.{ErrorView, One, leaves}

ones : (faults : List Fault) → flat_map leaves (map One faults) ≡ faults
ones [] = refl
ones (fault ∷ faults) = ap (λ more. fault ∷ more) (ones faults)

some : (faults : List Fault) → faults ≢ [] → 0 < length (map One faults)
some [] is = absurd (is refl)
some (fault ∷ faults) is = omega arith

pub ones-some : (errors : List ErrorView) (faults : List Fault) → errors ≡ map One faults → faults ≢ [] → 0 < length errors
ones-some errors faults are is = rw are (some faults is)

pub ones-leaves : {E : Type 0} (result : Result ErrorView E) (errors : List ErrorView) (faults : List Fault) → errors ≡ map One faults
    → IfOk result (λ error. leaves error ≡ flat_map leaves errors) → IfOk result (λ error. leaves error ≡ faults)
ones-leaves (Ok error) errors faults are is = is ∙ ap (flat_map leaves) are ∙ ones faults
ones-leaves (Err e) errors faults are is = tt

nothing_left : {X : Type 0} (xs : List X) → length xs ≡ 0 → xs ≡ []
nothing_left [] none = refl
nothing_left (x ∷ xs) none = let bad : ⊥ = omega (arith, none) in absurd bad

-- where nothing is left all has been taken
pub all-taken : {X : Type 0} (items taken left : List X) → items ≡ taken ++ left → length left ≡ 0 → items ≡ taken
all-taken items taken left split none = split ∙ ap (λ rest. taken ++ rest) (nothing_left left none) ∙ append-nil taken
