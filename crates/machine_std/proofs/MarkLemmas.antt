-- Marks.
use Rattle.std.proofs.Common.{◌≡◌, ◌≢◌, ◌∙◌, ℕ, ◌*◌, ◌/◌, ◌%◌, ◌^◌, ◌<◌, Bool, true, false, ◌==◌, ◌||◌, List, length, refl, ap, sym, arith, nat_eq, eqb-true, eq-eqb, ne_eqb, get_or, w32}
use Rattle.std.proofs.Math.ListN.{set}
use Rattle.std.proofs.lemmas.Bool.{eqb-false}
use Rattle.std.specs.Int.{bit_at}
use Rattle.std.specs.Int.RustNames.{bit_or}
use Rattle.std.proofs.lemmas.List.{get_or-set_other, get_or-set_same}
use Rattle.std.proofs.lemmas.Nat.Bits.{bit_at_set_same, bit_at_set_other}
use Rattle.machine_std.specs.Marks.{is_marked}

-- the word with the number's bit
abbrev with_bit : ℕ → ℕ → ℕ
with_bit word number = bit_or word (1 * 2 ^ (number % 32) % 2 ^ 32)

bit_in : (number : ℕ) → number % 32 < 32
bit_in number = omega arith

same_number : (number other : ℕ) → number / 32 ≡ other / 32 → number % 32 ≡ other % 32 → number ≡ other
same_number number other q r = omega (arith, q, r)

same_word : (words : List ℕ) (number other : ℕ) → number / 32 < length words → number / 32 ≡ other / 32 → (b : Bool) → nat_eq (number % 32) (other % 32) ≡ b
    → (bit_at (with_bit (get_or words (number / 32) 0) number) (other % 32) == 1) ≡ (number == other || is_marked words other)
same_word words number other h q true e =
    let r : number % 32 ≡ other % 32 = eqb-true (number % 32) (other % 32) e in
    let set_bit : bit_at (with_bit (get_or words (number / 32) 0) number) (other % 32) ≡ 1 = ap (bit_at (with_bit (get_or words (number / 32) 0) number)) (sym r) ∙ bit_at_set_same w32 (get_or words (number / 32) 0) (number % 32) (bit_in number) in
    ap (λ n. n == 1) set_bit ∙ sym (ap (λ b. b || is_marked words other) (eq-eqb number other (same_number number other q r)))
same_word words number other h q false e =
    let r : other % 32 ≢ number % 32 = λ same. eqb-false (number % 32) (other % 32) e (sym same) in
    let differ : number ≢ other = λ same. r (ap (λ n. n % 32) (sym same)) in
    ap (λ n. n == 1) (bit_at_set_other w32 (get_or words (number / 32) 0) (number % 32) (bit_in number) (other % 32) r ∙ ap (λ at. bit_at (get_or words at 0) (other % 32)) q)
    ∙ sym (ap (λ b. b || is_marked words other) (ne_eqb number other differ))

by_word : (words : List ℕ) (number other : ℕ) → number / 32 < length words → (b : Bool) → nat_eq (number / 32) (other / 32) ≡ b
    → is_marked (set words (number / 32) (with_bit (get_or words (number / 32) 0) number)) other ≡ (number == other || is_marked words other)
by_word words number other h true e =
    let q : number / 32 ≡ other / 32 = eqb-true (number / 32) (other / 32) e in
    let word : ℕ = with_bit (get_or words (number / 32) 0) number in
    ap (λ at. bit_at (get_or (set words (number / 32) word) at 0) (other % 32) == 1) (sym q)
    ∙ ap (λ it. bit_at it (other % 32) == 1) (get_or-set_same words (number / 32) word 0 h)
    ∙ same_word words number other h q (nat_eq (number % 32) (other % 32)) refl
by_word words number other h false e =
    let q : other / 32 ≢ number / 32 = λ same. eqb-false (number / 32) (other / 32) e (sym same) in
    let differ : number ≢ other = λ same. q (ap (λ n. n / 32) (sym same)) in
    ap (λ it. bit_at it (other % 32) == 1) (get_or-set_other words (number / 32) (other / 32) (with_bit (get_or words (number / 32) 0) number) 0 q)
    ∙ sym (ap (λ b. b || is_marked words other) (ne_eqb number other differ))

pub marked-set : (words : List ℕ) (number other : ℕ) → number / 32 < length words
    → is_marked (set words (number / 32) (bit_or (get_or words (number / 32) 0) (1 * 2 ^ (number % 32) % 2 ^ 32))) other ≡ (number == other || is_marked words other)
marked-set words number other h = by_word words number other h (nat_eq (number / 32) (other / 32)) refl
