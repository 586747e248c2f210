-- Numbers: integers of four bases, and floats. Each part goes on as far as it can.
use Rattle.std.specs.Prelude.{◌≡◌, ◌⊎◌, ◌<◌, ℕ, ◌^◌, Bool, true, false, not, ◌&&◌, ◌||◌, ◌==◌, if◌then◌else◌, [], ◌∷◌, ◌++◌, length, slice_index, drop, nat_lt}
use Rattle.std.specs.List.{list_all, list_any}
use Rattle.std.specs.Char.{is_digit}
use Rattle.tok_types.specs.Ascii.{digit_0, dot, letter_E, letter_b, letter_e, letter_o, letter_x, minus, plus, underscore}
use Rattle.tok_types.specs.Names.{starts_name, is_name}
use Rattle.tok_scan.specs.Characters.{Characters, begins}
use Rattle.tok_scan.specs.Escapes.{digits_value}

-- a decimal digit
abbrev pub is_decimal : ℕ → Bool
is_decimal c = is_digit c 10

-- among digits of the base: one, or a `_`
abbrev pub in_digits : ℕ → ℕ → Bool
in_digits base c = is_digit c base || c == underscore

-- a decimal digit, any more of them and `_`, and nothing further of these where `after` follows
pub record IsDecimalRun (text after : Characters) : Type 0 where
  pub first : begins is_decimal text ≡ true
  pub digits : list_all (in_digits 10) text ≡ true
  pub ends : begins (in_digits 10) after ≡ false

-- what may not follow the `.` of a fraction: `.`, `_`, and what a name begins with
abbrev pub is_after_dot : ℕ → Bool
is_after_dot c = c == dot || starts_name c

-- a fraction begins here
abbrev pub begins_fraction : Characters → Bool
begins_fraction text = slice_index text 0 == dot && not (begins is_after_dot (drop 1 text))

-- no fraction, where none begins; or `.` and digits or none
abbrev pub IsFraction : Characters → Characters → Type 0
IsFraction text after =
    ((text ≡ []) × (begins_fraction after ≡ false))
    ⊎ (((text ≡ dot ∷ []) × (begins is_after_dot after ≡ false) × (begins is_decimal after ≡ false))
    ⊎ ((digits : Characters) × (text ≡ dot ∷ digits) × IsDecimalRun digits after))

-- `e` or `E`
abbrev pub is_exponent_letter : ℕ → Bool
is_exponent_letter c = c == letter_e || c == letter_E

-- `+` or `-`
abbrev pub is_sign : ℕ → Bool
is_sign c = c == plus || c == minus

-- digits and `_`, at least one digit among them, and nothing further of these where `after` follows
pub record IsExponentRun (text after : Characters) : Type 0 where
  pub some : list_any is_decimal text ≡ true
  pub digits : list_all (in_digits 10) text ≡ true
  pub ends : begins (in_digits 10) after ≡ false

-- `e`, a sign or none, and digits
abbrev pub IsSomeExponent : Characters → Characters → Type 0
IsSomeExponent text after =
    (letter : ℕ) × (sign : Characters) × (digits : Characters) × (text ≡ letter ∷ (sign ++ digits)) × (is_exponent_letter letter ≡ true)
    × ((sign ≡ []) ⊎ ((c : ℕ) × (sign ≡ c ∷ []) × (is_sign c ≡ true))) × IsExponentRun digits after

-- an exponent, or none where none begins
abbrev pub IsExponent : Characters → Characters → Type 0
IsExponent text after = ((text ≡ []) × ((front rest : Characters) → after ≡ front ++ rest → IsSomeExponent front rest → ⊥)) ⊎ IsSomeExponent text after

-- nothing, or an identifier
abbrev pub is_suffix : Characters → Bool
is_suffix [] = true
is_suffix (c ∷ cs) = is_name (c ∷ cs)

-- the base that `0` and this letter announce: `x`, `o`, `b`
abbrev pub base_of : ℕ → ℕ
base_of c = if c == letter_x then 16 else if c == letter_o then 8 else if c == letter_b then 2 else 0

-- a base is announced here
abbrev pub begins_base : Characters → Bool
begins_base text = slice_index text 0 == digit_0 && nat_lt 0 (base_of (slice_index text 1))

-- a number in decimal digits: an integer of at most 128 bits, or what has a fraction or an exponent
pub record IsDecimalNumber (text after : Characters) : Type 0 where
  pub whole : Characters
  pub fraction : Characters
  pub exponent : Characters
  pub suffix : Characters
  pub parts : text ≡ whole ++ (fraction ++ (exponent ++ suffix))
  pub is_whole : IsDecimalRun whole (fraction ++ (exponent ++ (suffix ++ after)))
  pub is_fraction : IsFraction fraction (exponent ++ (suffix ++ after))
  pub is_exponent : IsExponent exponent (suffix ++ after)
  pub is_suffixed : is_suffix suffix ≡ true
  pub is_decimal : begins_base (text ++ after) ≡ false
  pub is_small : (0 < length (fraction ++ exponent)) ⊎ (digits_value 10 0 whole < 2 ^ 128)

-- an integer in another base, of at most 128 bits
pub record IsBasedNumber (text after : Characters) : Type 0 where
  pub letter : ℕ
  pub digits : Characters
  pub suffix : Characters
  pub parts : text ≡ digit_0 ∷ letter ∷ (digits ++ suffix)
  pub is_base : 0 < base_of letter
  pub some : list_any (λ c. is_digit c (base_of letter)) digits ≡ true
  pub are_digits : list_all (in_digits (base_of letter)) digits ≡ true
  pub ends : begins (in_digits (base_of letter)) (suffix ++ after) ≡ false
  pub is_suffixed : is_suffix suffix ≡ true
  pub is_small : digits_value (base_of letter) 0 digits < 2 ^ 128

-- an integer or a float
abbrev pub IsNumber : Characters → Characters → Type 0
IsNumber text after = IsDecimalNumber text after ⊎ IsBasedNumber text after
