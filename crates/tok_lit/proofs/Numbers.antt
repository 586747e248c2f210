-- The values of numbers are read.
use Rattle.std.proofs.Common.{◌≡◌, ℕ, ◌+◌, ◌^◌, ◌<◌, inl, inr, ⊎_elim, Bool, true, false, cond, ◌||◌, eqb, nat_lt, [], ◌∷◌, ◌++◌, length, take, drop, slice_index, refl, sym, ap, ◌∙◌, subst, arith, length-append}
use Rattle.std.proofs.Math.Seq.{drop-append_seam, take-append_seam}
use Rattle.std.proofs.lemmas.Bool.{false≢true, lt-ltb, ltb-false, ltb-true}
use Rattle.std.proofs.lemmas.Bool.Decides.{nat_tests}
use Rattle.std.proofs.lemmas.List.{append-nil}
use Rattle.std.proofs.lemmas.Str.Parse.{digit_from_value}
use Rattle.std.specs.Char.{digit_value}
use Rattle.std.specs.List.{prefix_len}
use Rattle.tok_scan.specs.Characters.{Characters, begins}
use Rattle.tok_scan.specs.Escapes.{digits_value}
use Rattle.tok_scan.specs.Numbers.{IsBasedNumber, IsDecimalNumber, IsNumber, base_of, begins_base, in_digits, is_decimal}
use Rattle.tok_scan.specs.Scan.{exponent_length, fraction_length}
use Rattle.tok_scan.proofs.Lists.{prefix_len-run}
use Rattle.tok_scan.proofs.Numerals.{decimal_run, exponent-append, fraction_length-append}
use Rattle.tok_lit.specs.Numbers.{IsFloat, IsInt, is_float_suffix}
use Rattle.tok_lit.specs.Reading.{based, decimal, number, or_none, value_of}
use Rattle.tok_lit.specs.Values.{IsValue}
use Rattle.tok_lit.specs.declared.value.Value.{Value}
use Rattle.tok_lit.specs.declared.value.Value.TheVariants as value

pub IsInt-number : (text : Characters) (v : ℕ) → IsInt text v → IsNumber text []
IsInt-number text v h = ⊎_elim (λ d. inl d.0) (λ b. inr b.0) h

pub IsFloat-number : (text : Characters) → IsFloat text → IsNumber text []
IsFloat-number text h = inl h.0

-- ---- what begins with a digit is a number

digit-value_of : (c : ℕ) (z : Characters) → is_decimal c ≡ true → value_of (c ∷ z) ≡ number (c ∷ z)
digit-value_of c z h =
    let range = digit_from_value c (ltb-true (digit_value c) 10 h) in
    let a : eqb c 34 ≡ false = grind (arith, nat_tests, range) in
    let b : eqb c 39 ≡ false = grind (arith, nat_tests, range) in
    let r : eqb c 114 ≡ false = grind (arith, nat_tests, range) in
    let d : eqb c 98 ≡ false = grind (arith, nat_tests, range) in
    rw (a, b, r, d) refl

begins-value_of : (text front back : Characters) → text ≡ front ++ back → begins is_decimal front ≡ true → value_of text ≡ number text
begins-value_of text [] back e h = absurd (false≢true h)
begins-value_of text (c ∷ cs) back e h = subst (λ (t : Characters). value_of t ≡ number t) (sym e) (digit-value_of c (cs ++ back) h)

small : (n : ℕ) → n < 2 ^ 128 → or_none n ≡ n
small n h = rw (lt-ltb n (2 ^ 128) h) refl

-- ---- in decimal digits

-- a choice between a float and an integer
abbrev choice : Bool → ℕ → Value
choice b n = cond b value.Float (value.Int n)

decimal-parts : (text : Characters) (n : IsDecimalNumber text [])
    → value_of text ≡ choice (nat_lt 0 (length n.fraction + length n.exponent) || is_float_suffix (n.fraction ++ (n.exponent ++ n.suffix))) (or_none (digits_value 10 0 n.whole))
decimal-parts text n =
    let behind : Characters = n.fraction ++ (n.exponent ++ n.suffix) in
    let bare : n.suffix ++ [] ≡ n.suffix = append-nil n.suffix in
    let base : begins_base text ≡ false = ap begins_base (sym (append-nil text)) ∙ n.is_decimal in
    let run : prefix_len (in_digits 10) text ≡ length n.whole =
    ap (prefix_len (in_digits 10)) (n.parts ∙ ap (λ (s : Characters). n.whole ++ (n.fraction ++ (n.exponent ++ s))) (sym bare)) ∙ decimal_run n.whole _ n.is_whole in
    let front : take (length n.whole) text ≡ n.whole = ap (take (length n.whole)) n.parts ∙ take-append_seam n.whole behind in
    let back : drop (length n.whole) text ≡ behind = ap (drop (length n.whole)) n.parts ∙ drop-append_seam n.whole behind in
    let fraction : fraction_length behind ≡ length n.fraction =
    ap (λ (s : Characters). fraction_length (n.fraction ++ (n.exponent ++ s))) (sym bare) ∙ fraction_length-append n.fraction _ n.is_fraction in
    let exponent : exponent_length (n.exponent ++ n.suffix) ≡ length n.exponent =
    ap (λ (s : Characters). exponent_length (n.exponent ++ s)) (sym bare) ∙ exponent-append n.exponent _ n.is_exponent in
    begins-value_of text n.whole behind n.parts n.is_whole.first
    ∙ ap (λ b. cond b (based (base_of (slice_index text 1)) text) (decimal text)) base
    ∙ ap (λ w. choice (nat_lt 0 (fraction_length (drop w text) + exponent_length (drop (fraction_length (drop w text)) (drop w text))) || is_float_suffix (drop w text)) (or_none (digits_value 10 0 (take w text)))) run
    ∙ ap (λ (z : Characters). choice (nat_lt 0 (fraction_length z + exponent_length (drop (fraction_length z) z)) || is_float_suffix z) (or_none (digits_value 10 0 (take (length n.whole) text)))) back
    ∙ ap (λ f. choice (nat_lt 0 (f + exponent_length (drop f behind)) || is_float_suffix behind) (or_none (digits_value 10 0 (take (length n.whole) text)))) fraction
    ∙ ap (λ (z : Characters). choice (nat_lt 0 (length n.fraction + exponent_length z) || is_float_suffix behind) (or_none (digits_value 10 0 (take (length n.whole) text)))) (drop-append_seam n.fraction (n.exponent ++ n.suffix))
    ∙ ap (λ e. choice (nat_lt 0 (length n.fraction + e) || is_float_suffix behind) (or_none (digits_value 10 0 (take (length n.whole) text)))) exponent
    ∙ ap (λ (w : Characters). choice (nat_lt 0 (length n.fraction + length n.exponent) || is_float_suffix behind) (or_none (digits_value 10 0 w))) front

-- with neither fraction nor exponent
decimal-bare : (text : Characters) (n : IsDecimalNumber text []) → n.fraction ≡ [] → n.exponent ≡ []
    → value_of text ≡ choice (is_float_suffix n.suffix) (or_none (digits_value 10 0 n.whole))
decimal-bare text n f e =
    decimal-parts text n
    ∙ ap (λ (z : Characters). choice (nat_lt 0 (length z + length n.exponent) || is_float_suffix (z ++ (n.exponent ++ n.suffix))) (or_none (digits_value 10 0 n.whole))) f
    ∙ ap (λ (z : Characters). choice (nat_lt 0 (0 + length z) || is_float_suffix (z ++ n.suffix)) (or_none (digits_value 10 0 n.whole))) e

empty : (z : Characters) → length z ≡ 0 → z ≡ []
empty [] h = refl
empty (c ∷ z) h = absurd (omega (arith, h))

decimal-float : (text : Characters) (n : IsDecimalNumber text []) → 0 < length (n.fraction ++ n.exponent) → value_of text ≡ value.Float
decimal-float text n h =
    let some : nat_lt 0 (length n.fraction + length n.exponent) ≡ true = lt-ltb 0 _ (omega (arith, h, length-append n.fraction n.exponent)) in
    decimal-parts text n ∙ ap (λ b. choice (b || is_float_suffix (n.fraction ++ (n.exponent ++ n.suffix))) (or_none (digits_value 10 0 n.whole))) some

pub float-value : (text : Characters) → IsFloat text → value_of text ≡ value.Float
float-value text h = ⊎_elim (decimal-float text h.0) (λ s. suffixed s (nat_lt 0 (length (h.0.fraction ++ h.0.exponent))) refl) h.1
  where
    suffixed : is_float_suffix h.0.suffix ≡ true → (b : Bool) → nat_lt 0 (length (h.0.fraction ++ h.0.exponent)) ≡ b → value_of text ≡ value.Float
    suffixed s true e = decimal-float text h.0 (ltb-true 0 _ e)
    suffixed s false e =
        let none = ltb-false 0 (length (h.0.fraction ++ h.0.exponent)) e in
        let both = length-append h.0.fraction h.0.exponent in
        decimal-bare text h.0 (empty h.0.fraction (omega (arith, none, both))) (empty h.0.exponent (omega (arith, none, both)))
        ∙ ap (λ b. choice b (or_none (digits_value 10 0 h.0.whole))) s

decimal-int : (text : Characters) (n : IsDecimalNumber text []) → n.fraction ≡ [] → n.exponent ≡ [] → is_float_suffix n.suffix ≡ false
    → value_of text ≡ value.Int (digits_value 10 0 n.whole)
decimal-int text n f e s =
    let low : digits_value 10 0 n.whole < 2 ^ 128 = ⊎_elim (λ some. absurd (omega (arith, some, length-append n.fraction n.exponent, ap length f, ap length e))) (λ low. low) n.is_small in
    decimal-bare text n f e ∙ ap (λ b. choice b (or_none (digits_value 10 0 n.whole))) s ∙ ap value.Int (small (digits_value 10 0 n.whole) low)

-- ---- in another base

based-int : (text : Characters) (n : IsBasedNumber text []) → value_of text ≡ value.Int (digits_value (base_of n.letter) 0 n.digits)
based-int text n =
    let base = base_of n.letter in
    let run : prefix_len (in_digits base) (n.digits ++ n.suffix) ≡ length n.digits =
    prefix_len-run (in_digits base) n.digits n.suffix n.are_digits (ap (begins (in_digits base)) (sym (append-nil n.suffix)) ∙ n.ends) in
    let front : take (prefix_len (in_digits base) (n.digits ++ n.suffix)) (n.digits ++ n.suffix) ≡ n.digits =
    ap (λ k. take k (n.digits ++ n.suffix)) run ∙ take-append_seam n.digits n.suffix in
    ap value_of n.parts
    ∙ ap (λ b. cond b (based base (48 ∷ n.letter ∷ (n.digits ++ n.suffix))) (decimal (48 ∷ n.letter ∷ (n.digits ++ n.suffix)))) (lt-ltb 0 base n.is_base)
    ∙ ap (λ (z : Characters). value.Int (or_none (digits_value base 0 z))) front
    ∙ ap value.Int (small (digits_value base 0 n.digits) n.is_small)

pub int-value : (text : Characters) (v : ℕ) → IsInt text v → value_of text ≡ value.Int v
int-value text v h = ⊎_elim
    (λ d. decimal-int text d.0 d.1 d.2 d.3 ∙ ap value.Int (sym d.4))
    (λ b. based-int text b.0 ∙ ap value.Int (sym b.1)) h

-- ---- a number is valued

pub number-valued : (text : Characters) → IsNumber text [] → (v : Value) × IsValue text v
number-valued text h = ⊎_elim
    (λ n. by_test n (nat_lt 0 (length (n.fraction ++ n.exponent))) (is_float_suffix n.suffix) refl refl)
    (λ n. (value.Int (digits_value (base_of n.letter) 0 n.digits), inr (n, refl))) h
  where
    by_test : (n : IsDecimalNumber text []) (a b : Bool) → nat_lt 0 (length (n.fraction ++ n.exponent)) ≡ a → is_float_suffix n.suffix ≡ b → (v : Value) × IsValue text v
    by_test n true b e s = (value.Float, (n, inl (ltb-true 0 _ e)))
    by_test n false true e s = (value.Float, (n, inr s))
    by_test n false false e s =
        let none = ltb-false 0 (length (n.fraction ++ n.exponent)) e in
        let both = length-append n.fraction n.exponent in
        (value.Int (digits_value 10 0 n.whole), inl (n, empty n.fraction (omega (arith, none, both)), empty n.exponent (omega (arith, none, both)), s, refl))
