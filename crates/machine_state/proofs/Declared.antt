-- Slots that are declared by their number.
use Rattle.std.proofs.Common.{◌≡◌, ◌∙◌, ◌<◌, ◌+◌, ℕ, zero, suc, List, [], ◌∷◌, ◌++◌, length, length-append, map, set, refl, ap, arith}
use Rattle.machine_read.specs.State.{Slot, declared, nowhere}
use Rattle.machine_state.specs.declared.slot.Slot.{Slot as Held}
use Rattle.machine_state.specs.Seen.{slot_of}

-- the next number is pushed
pub declared_pushed : (slots : List Held) (slot : Held) → map slot_of (slots ++ slot ∷ []) ≡ declared (length slots) (slot_of slot) (map slot_of slots)
declared_pushed [] slot = refl
declared_pushed (first ∷ slots) slot = ap (λ more. slot_of first ∷ more) (declared_pushed slots slot)

-- what stands nowhere may be put below it first
pub declared_padded : (slots : List Held) (number : ℕ) (slot : Slot) (empty : Held) → slot_of empty ≡ nowhere → length slots < number
    → declared number slot (map slot_of (slots ++ empty ∷ [])) ≡ declared number slot (map slot_of slots)
declared_padded [] zero slot empty is past = let bad : ⊥ = omega (arith, past) in absurd bad
declared_padded [] (suc number) slot empty is past = ap (λ first. first ∷ declared number slot []) is
declared_padded (first ∷ slots) zero slot empty is past = let bad : ⊥ = omega (arith, past) in absurd bad
declared_padded (first ∷ slots) (suc number) slot empty is past = ap (λ more. slot_of first ∷ more) (declared_padded slots number slot empty is (omega (arith, past)))

-- a number that has a slot gets another
pub declared_set : (slots : List Held) (number : ℕ) (slot : Held) → number < length slots → map slot_of (set slots number slot) ≡ declared number (slot_of slot) (map slot_of slots)
declared_set [] number slot within = let bad : ⊥ = omega (arith, within) in absurd bad
declared_set (first ∷ slots) zero slot within = refl
declared_set (first ∷ slots) (suc number) slot within = ap (λ more. slot_of first ∷ more) (declared_set slots number slot (omega (arith, within)))

-- one more that stands nowhere
pub padded : (slots new : List Held) (at number : ℕ) (slot : Slot) (old : List Slot) (empty : Held) → slot_of empty ≡ nowhere → at < number → new ≡ slots ++ empty ∷ []
    → (length slots ≡ at) × (declared number slot (map slot_of slots) ≡ declared number slot old)
    → (length new ≡ at + 1) × (declared number slot (map slot_of new) ≡ declared number slot old)
padded slots new at number slot old empty is past pushed done =
    let grown : length (slots ++ empty ∷ []) ≡ at + 1 = omega (arith, length-append slots (empty ∷ []), done.0) in (
      ap length pushed ∙ grown,
      ap (λ those. declared number slot (map slot_of those)) pushed ∙ declared_padded slots number slot empty is (omega (arith, done.0, past)) ∙ done.1,
    )

-- and at last the slot
pub finished : (slots new : List Held) (number : ℕ) (slot : Held) (old : List Slot) → length slots ≡ number → new ≡ slots ++ slot ∷ []
    → declared number (slot_of slot) (map slot_of slots) ≡ declared number (slot_of slot) old → map slot_of new ≡ declared number (slot_of slot) old
finished slots new number slot old same pushed done =
    ap (map slot_of) pushed ∙ declared_pushed slots slot ∙ ap (λ number. declared number (slot_of slot) (map slot_of slots)) same ∙ done
