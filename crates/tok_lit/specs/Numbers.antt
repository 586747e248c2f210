-- What numbers stand for.
use Rattle.std.specs.Prelude.{◌≡◌, ◌⊎◌, ◌<◌, ℕ, Bool, false, true, ◌||◌, [], ◌++◌, length, codes}
use Rattle.std.specs.Str.{bytes_eq}
use Rattle.tok_scan.specs.Characters.{Characters}
use Rattle.tok_scan.specs.Escapes.{digits_value}
use Rattle.tok_scan.specs.Numbers.{IsBasedNumber, IsDecimalNumber, base_of}

-- the suffixes that make a float of a decimal integer
abbrev pub is_float_suffix : Characters → Bool
is_float_suffix suffix = bytes_eq suffix (codes "f32") || bytes_eq suffix (codes "f64")

-- a number with a fraction, an exponent or the suffix of a float
abbrev pub IsFloat : Characters → Type 0
IsFloat text = (n : IsDecimalNumber text []) × ((0 < length (n.fraction ++ n.exponent)) ⊎ (is_float_suffix n.suffix ≡ true))

-- digits alone, with no such suffix, that write this number in their base
abbrev pub IsInt : Characters → ℕ → Type 0
IsInt text value =
    ((n : IsDecimalNumber text [])
    × (n.fraction ≡ []) × (n.exponent ≡ []) × (is_float_suffix n.suffix ≡ false) × (value ≡ digits_value 10 0 n.whole))
    ⊎ ((n : IsBasedNumber text []) × (value ≡ digits_value (base_of n.letter) 0 n.digits))
