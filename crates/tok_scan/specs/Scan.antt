-- The piece at the front of a text, computed.
use Rattle.std.specs.Prelude.{ℕ, zero, suc, ◌+◌, ◌*◌, ◌^◌, Bool, true, false, not, ◌&&◌, ◌||◌, if◌then◌else◌, ◌==◌, nat_le, nat_lt, [], ◌∷◌, drop, take, slice_index, Option, Some, None}
use Rattle.std.specs.List.{prefix_len, list_any}
use Rattle.std.specs.Char.{is_digit, digit_value}
use Rattle.tok_types.specs.Ascii.{backslash, double_quote, hash, left_brace, left_bracket, left_parenthesis, letter_b, letter_r, letter_u, letter_x, line_feed, right_brace, right_bracket, right_parenthesis, single_quote, slash, star, underscore}
use Rattle.tok_types.specs.Names.{starts_name, continues_name, is_reserved}
use Rattle.tok_scan.specs.Characters.{Characters, begins, is_white, is_mark, continues}
use Rattle.tok_scan.specs.Comments.{is_in_line, documents, comment_end}
use Rattle.tok_scan.specs.Escapes.{is_short, is_pair, in_hex, is_number_of_character, digits_value}
use Rattle.tok_scan.specs.Strings.{fits, is_blank, is_hash, closes, is_single}
use Rattle.tok_scan.specs.Numbers.{is_decimal, in_digits, begins_fraction, is_exponent_letter, is_sign, base_of, begins_base}
use Rattle.tok_scan.specs.Pieces.{goes_on, may_precede}
use Rattle.tok_types.specs.declared.tree.Delimiter.TheVariants as delimiter
use Rattle.tok_scan.specs.declared.kind.Found.{Found}
use Rattle.tok_scan.specs.declared.kind.Kind.{Kind}
use Rattle.tok_scan.specs.declared.kind.Kind.TheVariants as kind
use Rattle.tok_scan.specs.declared.scan.Head.{Head}
use Rattle.tok_scan.specs.declared.scan.Head.TheVariants as head

-- a piece of this kind and length
abbrev pub found : Kind → ℕ → Option Found
found k n = Some (record { kind = k; length = n })

-- how a piece begins that opens or closes a group
abbrev pub delimiter_head : ℕ → Head
delimiter_head c =
    if c == left_parenthesis then head.Open delimiter.Parenthesis
    else if c == right_parenthesis then head.Close delimiter.Parenthesis
    else if c == left_bracket then head.Open delimiter.Bracket
    else if c == right_bracket then head.Close delimiter.Bracket
    else if c == left_brace then head.Open delimiter.Brace
    else if c == right_brace then head.Close delimiter.Brace else head.Other

-- how a piece begins whose first character this is
abbrev pub head_of : ℕ → Head
head_of c =
    if starts_name c then head.Name
    else if is_white c then head.White
    else if is_decimal c then head.Digit
    else if c == double_quote then head.Quote
    else if c == single_quote then head.Tick
    else if c == slash then head.Slash
    else if is_mark c then head.Mark else delimiter_head c

-- ---- comments

-- these two characters stand at a place
abbrev pub is_pair_at : Characters → ℕ → ℕ → ℕ → Bool
is_pair_at text i a b = slice_index text i == a && slice_index text (i + 1) == b

-- a comment that ends there
abbrev pub comment : Option ℕ → Option Found
comment None = None
comment (Some end) = found kind.Comment end

-- what begins with `/`
abbrev pub slashed : Characters → Option Found
slashed text =
    if slice_index text 1 == slash then found (if documents text then kind.Doc else kind.Comment) (2 + prefix_len is_in_line (drop 2 text))
    else if slice_index text 1 == star then comment (comment_end 1 2 (drop 2 text)) else found (kind.Mark (goes_on (drop 1 text))) 1

-- ---- between quotes

-- the number of characters from the `u` of an escape to its `}`, or 0
abbrev pub unicode_length : Characters → ℕ
unicode_length text =
    let n = prefix_len in_hex (drop 2 text) in
    if slice_index text (2 + n) == right_brace && is_number_of_character (take n (drop 2 text)) then 3 + n else 0

-- the number of characters of the escape behind a backslash, or 0
unfoldable pub escape_length : Bool → Characters → ℕ
escape_length byte text =
    if is_short (slice_index text 0) then 1
    else if slice_index text 0 == letter_x && is_pair byte (slice_index text 1) (slice_index text 2) then 3
    else if not byte && (slice_index text 0 == letter_u && slice_index text 1 == left_brace) then unicode_length text else 0

-- the same in a string, where a line feed and blanks may stand there
abbrev pub item_length : Bool → Characters → ℕ
item_length byte text = if slice_index text 0 == line_feed then 1 + prefix_len is_blank (drop 1 text) else escape_length byte text

-- in a string, whose rest this is: the place after its last `"`, where the rest begins at `from` and an item with its first `left` characters
abbrev pub string_end : Bool → ℕ → ℕ → Characters → Option ℕ
string_end byte left from [] = None
string_end byte (suc left) from (c ∷ cs) = string_end byte left (from + 1) cs
string_end byte zero from (c ∷ cs) =
    if c == double_quote then Some (from + 1)
    else if c == backslash then (if item_length byte cs == 0 then None else string_end byte (item_length byte cs) (from + 1) cs)
    else if fits byte c then string_end byte 0 (from + 1) cs else None

-- the end of the string that begins with `"`
abbrev pub string_length : Bool → Characters → Option ℕ
string_length byte text = string_end byte 0 1 (drop 1 text)

-- in a raw form with so many `#`, whose rest this is and begins at `from`: the place after its last
abbrev pub raw_end : Bool → ℕ → ℕ → Characters → Option ℕ
raw_end byte n from [] = None
raw_end byte n from (c ∷ cs) =
    if closes n (c ∷ cs) then Some (from + (1 + n)) else if fits byte c then raw_end byte n (from + 1) cs else None

-- the end of the raw form whose first `#` or `"` begins the text
abbrev pub raw_length : Bool → Characters → Option ℕ
raw_length byte text =
    let n = prefix_len is_hash text in
    if slice_index text n == double_quote && nat_le n 255 then raw_end byte n (n + 1) (drop (n + 1) text) else None

-- the end of the character or byte that begins with `'`
abbrev pub ticked_length : Bool → Characters → Option ℕ
ticked_length byte text =
    if slice_index text 1 == backslash
    then (let n = escape_length byte (drop 2 text) in if nat_lt 0 n && slice_index text (2 + n) == single_quote then Some (3 + n) else None)
    else if is_single byte (slice_index text 1) && slice_index text 2 == single_quote then Some 3 else None

-- as many more
abbrev pub plus : ℕ → Option ℕ → Option ℕ
plus n None = None
plus n (Some m) = Some (n + m)

-- the end of the literal that begins with `r` or `b`
abbrev pub prefixed_length : Characters → Option ℕ
prefixed_length text =
    if slice_index text 0 == letter_r then plus 1 (raw_length false (drop 1 text))
    else if slice_index text 0 == letter_b
    then (if slice_index text 1 == double_quote then plus 1 (string_length true (drop 1 text))
    else if slice_index text 1 == single_quote then plus 1 (ticked_length true (drop 1 text))
    else if slice_index text 1 == letter_r then plus 2 (raw_length true (drop 2 text)) else None)
    else None

-- a literal that ends there
abbrev pub literal : Option ℕ → Option Found
literal None = None
literal (Some end) = found kind.Literal end

-- ---- names

-- the end of the raw identifier that begins the text
abbrev pub raw_name_length : Characters → Option ℕ
raw_name_length text =
    let n = prefix_len continues_name (drop 2 text) in
    if slice_index text 0 == letter_r && slice_index text 1 == hash && begins starts_name (drop 2 text) && not (is_reserved (take n (drop 2 text)))
    then Some (2 + n) else None

-- the identifier that begins the text, or the raw one that ends there
abbrev pub named : Characters → Option ℕ → Option Found
named text None = found kind.Ident (prefix_len continues_name text)
named text (Some end) = found kind.RawIdent end

-- the literal that ends there, or the identifier that begins the text
abbrev pub worded : Characters → Option ℕ → Option Found
worded text None = named text (raw_name_length text)
worded text (Some end) = found kind.Literal end

-- the lifetime of the name that begins the text, or of the raw one that ends there
abbrev pub lifetime : Characters → Option ℕ → Option Found
lifetime name None = if begins starts_name name then found kind.Lifetime (1 + prefix_len continues_name name) else None
lifetime name (Some end) = found kind.Lifetime (1 + end)

-- the character that ends there, or the lifetime that begins the text
abbrev pub ticked : Characters → Option ℕ → Option Found
ticked text None = lifetime (drop 1 text) (raw_name_length (drop 1 text))
ticked text (Some end) = if continues (drop end text) then lifetime (drop 1 text) (raw_name_length (drop 1 text)) else found kind.Literal end

-- ---- numbers

-- a number of at most 128 bits
abbrev pub small : ℕ → Option ℕ
small n = if nat_lt n (2 ^ 128) then Some n else None

-- a number with one more digit, or with `_`
abbrev pub with_digit : ℕ → ℕ → ℕ → ℕ
with_digit base value c = if c == underscore then value else value * base + digit_value c

-- the number of characters of the fraction that begins the text
abbrev pub fraction_length : Characters → ℕ
fraction_length text =
    if begins_fraction text then (if begins is_decimal (drop 1 text) then 1 + prefix_len (in_digits 10) (drop 1 text) else 1) else 0

-- the number of characters of a sign
abbrev pub sign_length : Characters → ℕ
sign_length text = if begins is_sign text then 1 else 0

-- the number of characters of the digits of an exponent, or 0
abbrev pub exponent_digits : Characters → ℕ
exponent_digits text = let n = prefix_len (in_digits 10) text in if list_any is_decimal (take n text) then n else 0

-- the number of characters of the exponent that begins the text
abbrev pub exponent_length : Characters → ℕ
exponent_length text =
    let sign = sign_length (drop 1 text) in
    let digits = exponent_digits (drop (1 + sign) text) in
    if begins is_exponent_letter text && nat_lt 0 digits then 1 + sign + digits else 0

-- the number of characters of the suffix that begins the text
abbrev pub suffix_length : Characters → ℕ
suffix_length text = if begins starts_name text then prefix_len continues_name text else 0

-- a number of so many digits, and of so many characters in its other parts
abbrev pub decimal : Characters → ℕ → ℕ → ℕ → Option Found
decimal text whole more suffix =
    if nat_lt 0 more || nat_lt (digits_value 10 0 (take whole text)) (2 ^ 128) then found kind.Literal (whole + more + suffix) else None

-- the number in decimal digits that begins the text
abbrev pub decimal_number : Characters → Option Found
decimal_number text =
    let whole = prefix_len (in_digits 10) text in
    let fraction = fraction_length (drop whole text) in
    let exponent = exponent_length (drop fraction (drop whole text)) in
    let suffix = suffix_length (drop exponent (drop fraction (drop whole text))) in
    decimal text whole (fraction + exponent) suffix

-- the number in another base that begins the text
abbrev pub based_number : ℕ → Characters → Option Found
based_number base text =
    let digits = prefix_len (in_digits base) (drop 2 text) in
    let suffix = suffix_length (drop digits (drop 2 text)) in
    let run = take digits (drop 2 text) in
    if list_any (λ c. is_digit c base) run && nat_lt (digits_value base 0 run) (2 ^ 128) then found kind.Literal (2 + digits + suffix) else None

-- the number that begins the text
abbrev pub number : Characters → Option Found
number text = if begins_base text then based_number (base_of (slice_index text 1)) text else decimal_number text

-- ---- by the first character

-- what begins so
abbrev pub headed : Head → Characters → Option Found
headed head.Name text = worded text (prefixed_length text)
headed head.White text = found kind.White 1
headed head.Digit text = number text
headed head.Quote text = literal (string_length false text)
headed head.Tick text = ticked text (ticked_length false text)
headed head.Slash text = slashed text
headed head.Mark text = found (kind.Mark (goes_on (drop 1 text))) 1
headed (head.Open d) text = found (kind.Open d) 1
headed (head.Close d) text = found (kind.Close d) 1
headed head.Other text = None

-- the longest piece at the front, whatever follows it
unfoldable pub front : Characters → Option Found
front [] = None
front (c ∷ cs) = headed (head_of c) (c ∷ cs)

-- it is a piece where what follows may follow
abbrev pub allowed : Characters → Option Found → Option Found
allowed text None = None
allowed text (Some p) = if may_precede p.kind (drop p.length text) then Some p else None

-- the piece at the front
abbrev pub piece : Characters → Option Found
piece text = allowed text (front text)
