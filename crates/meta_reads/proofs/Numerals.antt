-- The tests of integers decide the facts that std says of `parse`.
use Rattle.std.proofs.Common.{◌≡◌, ℕ, ◌<◌, ◌≤◌, ◌^◌, ◌&&◌, nat_le, Bool, List, [], ◌∷◌, length, Result, Ok, Err, Some, None, ap, ◌∙◌, sym, refl, cond, Decides, subst, arith}
use Rattle.std.specs.Str.Parse.{AllDigits, IsNumeral, digits_value, without_leading_plus, ParsesUnsigned, without_leading_sign, signed_digits_value, ParsesSigned}
use Rattle.std.specs.Char.{digit_value}
use Rattle.std.specs.Int.{w128}
use Rattle.std.specs.Int.Signed.{mag}
use Rattle.std.proofs.lemmas.Int.{ints}
use Rattle.std.proofs.Math.Nat.{lt_of_lt_of_le}
use Rattle.std.specs.Prelude.{ℤ, pos, negsuc, FitsSigned, IsTrue}
use Rattle.std.proofs.lemmas.Bool.Decides.{Decides-and, Decides-ltb, nat_tests}
use Rattle.std.proofs.lemmas.Bool.{false_from_ne_true}
use Rattle.std.proofs.lemmas.Result.{OkIff-at_ok, OkIff-at_err}
use Rattle.base_core.specs.declared.text.Text.{Text}
use Rattle.meta_reads.specs.Integers.{all_digits, is_numeral, unsigned_in, signed_in, is_within}

all_digits-decides : (cs : List ℕ) → Decides (all_digits cs) (AllDigits 10 cs)
all_digits-decides [] = (λ _. tt, λ _. refl)
all_digits-decides (c ∷ cs) = Decides-and _ _ (Decides-ltb (digit_value c) 10) (all_digits-decides cs)

pub is_numeral-decides : (cs : List ℕ) → Decides (is_numeral cs) (IsNumeral 10 cs)
is_numeral-decides cs = Decides-and _ _ (Decides-ltb 0 (length cs)) (all_digits-decides cs)

-- `mag` is how far a number is from zero, one less below it
within_half : (half : ℕ) (n : ℤ) → IsTrue (is_within half n) → mag n < half
within_half half (pos a) within = grind (arith, ints)
within_half half (negsuc a) within = grind (arith, ints)

-- a number within half of the 128 bits fits them
is_within-fits : (half : ℕ) (n : ℤ) → half ≤ 2 ^ 127 → IsTrue (is_within half n) → FitsSigned w128 n
is_within-fits half n range within = record { sfits = lt_of_lt_of_le (within_half half n within) range }

nat_le-decides : (a b : ℕ) → Decides (nat_le a b) (a ≤ b)
nat_le-decides a b = (λ e. grind (arith, nat_tests), λ h. grind (arith, nat_tests))

-- an option by a test that decides a fact
module _ {A : Type 0} (b : Bool) (P : Type 0) (decides : Decides b P) (x : A) where
  some_where : P → Some x ≡ cond b (Some x) None
  some_where is = sym (ap (λ v. cond v (Some x) None) (decides.1 is))

  none_where : (P → ⊥) → None ≡ cond b (Some x) None
  none_where never = sym (ap (λ v. cond v (Some x) None) (false_from_ne_true b (λ t. never (decides.0 t))))

module _ (most : ℕ) (text : Text) where
  abbrev digits : List ℕ
  digits = without_leading_plus text

  abbrev value : ℕ
  value = digits_value 10 digits

  unsigned-decides : Decides (is_numeral digits && nat_le value most) (IsNumeral 10 digits × (value ≤ most))
  unsigned-decides = Decides-and _ _ (is_numeral-decides digits) (nat_le-decides value most)

  pub unsigned_in-ok : {E : Type 0} (r : Result ℕ E) (n : ℕ) → ParsesUnsigned 128 10 text r → r ≡ Ok n → n ≤ most
      → Some n ≡ unsigned_in most text
  unsigned_in-ok r n parses is fits =
      let found = OkIff-at_ok r _ value n parses is in
      ap Some found.1 ∙ some_where _ _ unsigned-decides value (found.0.0, subst (λ m. m ≤ most) found.1 fits)

  pub unsigned_in-err : {E : Type 0} (r : Result ℕ E) (e : E) → ParsesUnsigned 128 10 text r → r ≡ Err e → most < 2 ^ 128
      → None ≡ unsigned_in most text
  unsigned_in-err r e parses is range =
      none_where _ _ unsigned-decides value (λ found. OkIff-at_err r _ value e parses is (found.0, omega (arith, found.1, range)))

module _ (half : ℕ) (text : Text) where
  abbrev number : ℤ
  number = signed_digits_value 10 text

  signed-decides : Decides (is_numeral (without_leading_sign text) && is_within half number)
      (IsNumeral 10 (without_leading_sign text) × IsTrue (is_within half number))
  signed-decides = Decides-and _ _ (is_numeral-decides (without_leading_sign text)) (λ e. e, λ e. e)

  pub signed_in-ok : {E : Type 0} (r : Result ℤ E) (n m : ℤ) → ParsesSigned w128 10 text r → r ≡ Ok n → m ≡ n → IsTrue (is_within half m)
      → Some m ≡ signed_in half text
  signed_in-ok r n m parses is same fits =
      let found = OkIff-at_ok r _ number n parses is in
      let read = same ∙ found.1 in
      ap Some read ∙ some_where _ _ signed-decides number (found.0.0, subst (λ z. IsTrue (is_within half z)) read fits)

  pub signed_in-err : {E : Type 0} (r : Result ℤ E) (e : E) → ParsesSigned w128 10 text r → r ≡ Err e → half ≤ 2 ^ 127
      → None ≡ signed_in half text
  signed_in-err r e parses is range =
      none_where _ _ signed-decides number (λ found. OkIff-at_err r _ number e parses is (found.0, is_within-fits half number range found.1))
