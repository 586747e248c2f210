-- A list that is read or written piece by piece.
use Rattle.std.proofs.Common.{◌≡◌, ℕ, suc, zero, ◌+◌, ◌-◌, ◌≤◌, List, [], ◌∷◌, ◌++◌, length, take, drop, ◌∙◌, ap, sym, refl, arith, zero-add, suc-add, length-append}
use Rattle.std.proofs.Math.Seq.{take-nil}
use Rattle.std.proofs.lemmas.Grind.{common_steps}
use Rattle.std.proofs.lemmas.List.{length-take}

-- some bytes, and then some of the rest
pub take-add : (n m : ℕ) (xs : List ℕ) → take (n + m) xs ≡ take n xs ++ take m (drop n xs)
take-add zero m xs = rw zero-add refl
take-add (suc n) m [] = take-nil (suc n + m) ∙ sym (take-nil m)
take-add (suc n) m (x ∷ xs) = rw suc-add (ap (λ ys. x ∷ ys) (take-add n m xs))

-- the slice from an index on
pub take-drop : (n : ℕ) (xs : List ℕ) → take (length xs - n) (drop n xs) ≡ drop n xs
take-drop n xs = grind (arith, common_steps)

-- the bytes so far and the count of one more read
pub length-append-take : (bytes buf given : List ℕ) (count : ℕ) → count ≤ length buf →
    given ≡ bytes ++ take count buf → length given ≡ length bytes + count
length-append-take bytes buf given count within e =
    rw e (simp (length-append, length-take) (omega arith))
