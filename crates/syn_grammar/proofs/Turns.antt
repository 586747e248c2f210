-- A definition that counts its turns down, beside a loop that counts them up.
use Rattle.std.proofs.Common.{◌≡◌, ℕ, suc, ◌+◌, ◌-◌, ◌<◌, ◌≤◌, ap, ◌∙◌, arith}

-- a loop that takes another turn
pub turn_left : {A : Type 0} (rest : ℕ → A) (turns turn : ℕ) {whole : A} → turn < turns → whole ≡ rest (turns - turn) → whole ≡ rest (suc (turns - (turn + 1)))
turn_left rest turns turn below kept = let left : turns - turn ≡ suc (turns - (turn + 1)) = omega arith in kept ∙ ap rest left

-- a loop that has taken all its turns
pub turns_over : {A : Type 0} (rest : ℕ → A) (turns turn : ℕ) {whole : A} → turns ≤ turn → whole ≡ rest (turns - turn) → whole ≡ rest 0
turns_over rest turns turn over kept = let left : turns - turn ≡ 0 = omega arith in kept ∙ ap rest left
