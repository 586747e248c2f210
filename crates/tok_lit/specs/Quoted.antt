-- What literals between quotes stand for.
use Rattle.std.specs.Prelude.{◌≡◌, ◌⊎◌, ℕ, Bool, true, false, ◌==◌, if◌then◌else◌, [], ◌∷◌, ◌++◌, drop, take, map, slice_index}
use Rattle.std.specs.List.{concat, prefix_len}
use Rattle.tok_types.specs.Ascii.{backslash, carriage_return, digit_0, letter_b, letter_n, letter_r, letter_t, letter_u, letter_x, line_feed, single_quote, tab}
use Rattle.tok_scan.specs.Characters.{Characters}
use Rattle.tok_scan.specs.Escapes.{IsEscape, digits_value, in_hex}
use Rattle.tok_scan.specs.Strings.{IsString, IsRaw, is_single}

-- what a letter stands for behind a backslash
abbrev pub short_value : ℕ → ℕ
short_value c = if c == letter_n then line_feed else if c == letter_r then carriage_return else if c == letter_t then tab else if c == digit_0 then 0 else c

-- the number of the character for which an escape stands: what follows its backslash begins the text
abbrev pub escape_value : Characters → ℕ
escape_value text =
    if slice_index text 0 == letter_x then digits_value 16 0 (slice_index text 1 ∷ slice_index text 2 ∷ [])
    else if slice_index text 0 == letter_u then digits_value 16 0 (take (prefix_len in_hex (drop 2 text)) (drop 2 text))
    else short_value (slice_index text 0)

-- the characters for which a part of a string's content stands: none for a backslash and a line feed, else one
abbrev pub item_value : Characters → Characters
item_value [] = []
item_value (c ∷ e) = if c == backslash then (if slice_index e 0 == line_feed then [] else escape_value e ∷ []) else c ∷ []

-- a string with this value
abbrev pub IsStringOf : Bool → Characters → Characters → Type 0
IsStringOf byte text value = (string : IsString byte text) × (value ≡ concat (map item_value string.0))

-- a raw form, after its letters, whose content is this value
abbrev pub IsRawOf : Bool → Characters → Characters → Type 0
IsRawOf byte text value = (form : IsRaw byte text) × (value ≡ form.1)

-- a character between apostrophes with this number
abbrev pub IsTickedOf : Bool → Characters → ℕ → Type 0
IsTickedOf byte text value =
    ((text ≡ single_quote ∷ value ∷ single_quote ∷ []) × (is_single byte value ≡ true))
    ⊎ ((e : Characters) × (text ≡ single_quote ∷ backslash ∷ (e ++ single_quote ∷ [])) × IsEscape byte e × (value ≡ escape_value e))

-- a string literal of text with this value
abbrev pub IsStr : Characters → Characters → Type 0
IsStr text value = IsStringOf false text value ⊎ ((raw : Characters) × (text ≡ letter_r ∷ raw) × IsRawOf false raw value)

-- a string literal of bytes with this value
abbrev pub IsByteStr : Characters → Characters → Type 0
IsByteStr text value =
    ((string : Characters) × (text ≡ letter_b ∷ string) × IsStringOf true string value)
    ⊎ ((raw : Characters) × (text ≡ letter_b ∷ letter_r ∷ raw) × IsRawOf true raw value)

-- a byte with this value
abbrev pub IsByte : Characters → ℕ → Type 0
IsByte text value = (ticked : Characters) × (text ≡ letter_b ∷ ticked) × IsTickedOf true ticked value

-- a character with this number
abbrev pub IsChar : Characters → ℕ → Type 0
IsChar text value = IsTickedOf false text value
