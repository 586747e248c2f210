-- Escapes: what may follow a backslash, in forms of text and in forms of bytes.
use Rattle.std.specs.Prelude.{◌≡◌, ◌⊎◌, ℕ, ◌+◌, ◌*◌, Bool, true, false, ◌&&◌, ◌||◌, ◌==◌, nat_le, nat_lt, if◌then◌else◌, [], ◌∷◌, ◌++◌, codes}
use Rattle.std.specs.List.{list_all, list_any, count_by}
use Rattle.std.specs.Char.{digit_value, is_ascii_hexdigit}
use Rattle.tok_types.specs.Ascii.{left_brace, letter_u, letter_x, right_brace, underscore}
use Rattle.tok_scan.specs.Characters.{Characters, begins}

-- the letters of the short escapes
abbrev pub is_short : ℕ → Bool
is_short c = list_any (λ e. c == e) (codes "nrt\\0'\"")

-- two hexadecimal digits; in a form of text they go to 7F
abbrev pub is_pair : Bool → ℕ → ℕ → Bool
is_pair byte a b = is_ascii_hexdigit a && is_ascii_hexdigit b && (byte || nat_le a 55)

-- among hexadecimal digits: one, or a `_`
abbrev pub in_hex : ℕ → Bool
in_hex c = is_ascii_hexdigit c || c == underscore

-- the number that digits write in a base, `_` left out, after digits that write `before`
abbrev pub digits_value : ℕ → ℕ → Characters → ℕ
digits_value base before [] = before
digits_value base before (c ∷ cs) = digits_value base (if c == underscore then before else before * base + digit_value c) cs

-- the number of a character
abbrev pub is_scalar : ℕ → Bool
is_scalar n = nat_lt n 0xD800 || (nat_le 0xE000 n && nat_lt n 0x110000)

-- one to six hexadecimal digits, with `_` after the first, that are the number of a character
abbrev pub is_number_of_character : Characters → Bool
is_number_of_character digits =
    begins is_ascii_hexdigit digits && list_all in_hex digits && nat_le (count_by is_ascii_hexdigit digits) 6 && is_scalar (digits_value 16 0 digits)

-- what follows a backslash: a letter, `x` and two digits, or, not among bytes, `u{` digits `}`
abbrev pub IsEscape : Bool → Characters → Type 0
IsEscape byte e =
    ((c : ℕ) × (e ≡ c ∷ []) × (is_short c ≡ true))
    ⊎ (((a : ℕ) × (b : ℕ) × (e ≡ letter_x ∷ a ∷ b ∷ []) × (is_pair byte a b ≡ true))
    ⊎ ((digits : Characters) × (e ≡ letter_u ∷ left_brace ∷ (digits ++ right_brace ∷ [])) × (byte ≡ false) × (is_number_of_character digits ≡ true)))
