-- Slots that are declared by their number.
use Rattle.std.proofs.Common.{◌≡◌, List, [], ◌∷◌, ◌++◌, length, refl, ap}
use Rattle.machine_steps.specs.State.{Slot, declared}

-- the next number stands behind all
pub declared_next : (slots : List Slot) (slot : Slot) → declared (length slots) slot slots ≡ slots ++ slot ∷ []
declared_next [] slot = refl
declared_next (first ∷ slots) slot = ap (λ more. first ∷ more) (declared_next slots slot)
