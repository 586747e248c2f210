-- The errors of faults, one each.
use Rattle.std.proofs.Common.{◌≡◌, refl, ap, List, [], ◌∷◌, map, flat_map}
use Rattle.error_fault.specs.declared.fault.Fault.{Fault}
use Rattle.error_core.specs.ErrorView.{One, leaves}

pub leaves-ones : (faults : List Fault) → flat_map leaves (map One faults) ≡ faults
leaves-ones [] = refl
leaves-ones (fault ∷ faults) = ap (λ more. fault ∷ more) (leaves-ones faults)
