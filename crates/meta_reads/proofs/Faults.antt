-- The faults of errors that are one fault each.
use Rattle.std.proofs.Common.{◌≡◌, List, [], ◌∷◌, map, refl, ap}
use Rattle.error_fault.specs.declared.fault.Fault.{Fault}
use Rattle.error_core.specs.ErrorView.{One, held}

pub held-ones : {A : Type 0} (fault_of : A → Fault) (items : List A) → held (map (λ item. One (fault_of item)) items) ≡ map fault_of items
held-ones fault_of [] = refl
held-ones fault_of (item ∷ items) = ap (λ faults. fault_of item ∷ faults) (held-ones fault_of items)
