-- The values of literals, computed from texts that are literals.
use Rattle.std.specs.Prelude.{ℕ, zero, suc, ◌+◌, ◌-◌, ◌^◌, Bool, true, false, ◌||◌, ◌==◌, if◌then◌else◌, [], ◌∷◌, drop, take, map, length, nat_lt, slice_index}
use Rattle.std.specs.List.{prefix_len}
use Rattle.std.specs.Str.{encode_utf8_all}
use Rattle.tok_types.specs.Ascii.{backslash, double_quote, letter_b, letter_r, letter_u, letter_x, line_feed, single_quote}
use Rattle.tok_scan.specs.Characters.{Characters}
use Rattle.tok_scan.specs.Escapes.{digits_value, in_hex, is_scalar}
use Rattle.tok_scan.specs.Numbers.{base_of, begins_base, in_digits}
use Rattle.tok_scan.specs.Scan.{exponent_length, fraction_length, item_length}
use Rattle.tok_scan.specs.Strings.{is_hash}
use Rattle.tok_lit.specs.Numbers.{is_float_suffix}
use Rattle.tok_lit.specs.Quoted.{short_value}
use Rattle.tok_lit.specs.declared.value.Value.{Value}
use Rattle.tok_lit.specs.declared.value.Value.TheVariants as value

-- the number where it is that of a character; no literal has another
abbrev pub or_mark : ℕ → ℕ
or_mark n = if is_scalar n then n else 0xFFFD

-- the number where it is a byte; no literal of bytes has another
abbrev pub or_zero : ℕ → ℕ
or_zero n = if nat_lt n 256 then n else 0

-- the character for which an escape stands: what follows its backslash begins the text
abbrev pub escaped : Characters → ℕ
escaped text =
    if slice_index text 0 == letter_x then or_mark (digits_value 16 0 (slice_index text 1 ∷ slice_index text 2 ∷ []))
    else if slice_index text 0 == letter_u then or_mark (digits_value 16 0 (take (prefix_len in_hex (drop 2 text)) (drop 2 text)))
    else short_value (slice_index text 0)

-- of a string's content, whose rest this is: what it stands for, where the first `left` characters belong to an item that is read
abbrev pub unescaped : Bool → ℕ → Characters → Characters
unescaped byte left [] = []
unescaped byte (suc left) (c ∷ cs) = unescaped byte left cs
unescaped byte zero (c ∷ cs) =
    if c == backslash then (if slice_index cs 0 == line_feed then unescaped byte (item_length byte cs) cs else escaped cs ∷ unescaped byte (item_length byte cs) cs)
    else c ∷ unescaped byte 0 cs

-- what stands between the quotes of a string, or of a raw form after its letters
abbrev pub content : Characters → Characters
content text =
    let quote = prefix_len is_hash text + 1 in
    take (length (drop quote text) - quote) (drop quote text)

-- the character between apostrophes
abbrev pub ticked : Characters → ℕ
ticked text = if slice_index text 1 == backslash then escaped (drop 2 text) else slice_index text 1

-- the number where it has at most 128 bits, as that of a literal has
abbrev pub or_none : ℕ → ℕ
or_none n = if nat_lt n (2 ^ 128) then n else 0

-- what a number in another base stands for
abbrev pub based : ℕ → Characters → Value
based base text = value.Int (or_none (digits_value base 0 (take (prefix_len (in_digits base) (drop 2 text)) (drop 2 text))))

-- what a number in decimal digits stands for
abbrev pub decimal : Characters → Value
decimal text =
    let whole = prefix_len (in_digits 10) text in
    let behind = drop whole text in
    let fraction = fraction_length behind in
    if nat_lt 0 (fraction + exponent_length (drop fraction behind)) || is_float_suffix behind
    then value.Float else value.Int (or_none (digits_value 10 0 (take whole text)))

-- what a number stands for
abbrev pub number : Characters → Value
number text = if begins_base text then based (base_of (slice_index text 1)) text else decimal text

-- what a literal stands for that begins with `b`
abbrev pub prefixed : Characters → Value
prefixed text =
    if slice_index text 1 == double_quote then value.ByteStr (map or_zero (unescaped true 0 (content (drop 1 text))))
    else if slice_index text 1 == single_quote then value.Byte (or_zero (ticked (drop 1 text)))
    else value.ByteStr (map or_zero (content (drop 2 text)))

-- what a literal stands for
abbrev pub value_of : Characters → Value
value_of text =
    if slice_index text 0 == double_quote then value.Str (encode_utf8_all (unescaped false 0 (content text)))
    else if slice_index text 0 == single_quote then value.Char (ticked text)
    else if slice_index text 0 == letter_r then value.Str (encode_utf8_all (content (drop 1 text)))
    else if slice_index text 0 == letter_b then prefixed text else number text
