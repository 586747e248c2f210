-- Literals between quotes: strings, byte strings, their raw forms, characters and bytes.
use Rattle.std.specs.Prelude.{◌≡◌, ◌⊎◌, ◌≤◌, ℕ, Bool, true, false, not, ◌&&◌, ◌||◌, ◌==◌, nat_le, nat_lt, List, [], ◌∷◌, ◌++◌, codes, replicate}
use Rattle.std.specs.List.{list_all, list_any, concat, prefix_len}
use Rattle.tok_types.specs.Ascii.{backslash, double_quote, hash, letter_b, letter_r, line_feed, single_quote}
use Rattle.tok_scan.specs.Characters.{Characters, begins}
use Rattle.tok_scan.specs.Escapes.{IsEscape}

-- in a form of bytes only ASCII stands for itself
abbrev pub fits : Bool → ℕ → Bool
fits byte c = not byte || nat_lt c 128

-- it stands for itself in a string: neither `"` nor `\`
abbrev pub is_plain : Bool → ℕ → Bool
is_plain byte c = fits byte c && not (c == double_quote || c == backslash)

-- space, tab, line feed, carriage return: a backslash before a line feed drops them
abbrev pub is_blank : ℕ → Bool
is_blank c = list_any (λ b. c == b) (codes " \t\n\r")

-- a part of a string's content where `after` is the rest of it: a character that stands for itself, an escape,
-- or a backslash, a line feed and all blanks behind, which stand for nothing
abbrev pub IsItem : Bool → Characters → Characters → Type 0
IsItem byte item after =
    ((c : ℕ) × (item ≡ c ∷ []) × (is_plain byte c ≡ true))
    ⊎ (((e : Characters) × (item ≡ backslash ∷ e) × IsEscape byte e)
    ⊎ ((blanks : Characters) × (item ≡ backslash ∷ line_feed ∷ blanks) × (list_all is_blank blanks ≡ true) × (begins is_blank after ≡ false)))

-- the parts of a string's content, in their order
abbrev pub AreItems : Bool → List Characters → Type 0
AreItems byte [] = Unit {0}
AreItems byte (item ∷ items) = IsItem byte item (concat items) × AreItems byte items

-- items between two `"`
abbrev pub IsString : Bool → Characters → Type 0
IsString byte text = (items : List Characters) × (text ≡ double_quote ∷ (concat items ++ double_quote ∷ [])) × AreItems byte items

-- a number sign
abbrev pub is_hash : ℕ → Bool
is_hash c = c == hash

-- so many number signs
abbrev pub hashes : ℕ → Characters
hashes n = replicate n 35

-- a `"` with so many `#` behind it begins the text
abbrev pub closes : ℕ → Characters → Bool
closes n [] = false
closes n (c ∷ cs) = c == double_quote && nat_le n (prefix_len is_hash cs)

-- the content of a raw form: nowhere in it a `"` with so many `#` behind
abbrev pub stays_open : Bool → ℕ → Characters → Bool
stays_open byte n [] = true
stays_open byte n (c ∷ cs) = fits byte c && not (closes n (c ∷ cs)) && stays_open byte n cs

-- a raw form after its letters: a content between quotes, and the same number of `#`, up to 255, before and behind
abbrev pub IsRaw : Bool → Characters → Type 0
IsRaw byte text =
    (n : ℕ) × (content : Characters) × (text ≡ hashes n ++ double_quote ∷ (content ++ double_quote ∷ hashes n)) × (n ≤ 255) × (stays_open byte n content ≡ true)

-- it stands for itself between apostrophes: none of `'`, `\`, line feed, carriage return, tab
abbrev pub is_single : Bool → ℕ → Bool
is_single byte c = fits byte c && not (list_any (λ n. c == n) (codes "'\\\n\r\t"))

-- one character between apostrophes, by itself or as an escape
abbrev pub IsTicked : Bool → Characters → Type 0
IsTicked byte text =
    ((c : ℕ) × (text ≡ single_quote ∷ c ∷ single_quote ∷ []) × (is_single byte c ≡ true))
    ⊎ ((e : Characters) × (text ≡ single_quote ∷ backslash ∷ (e ++ single_quote ∷ [])) × IsEscape byte e)

-- `r"..."` with its `#`, the same after `b`, `b"..."`, and a byte `b'x'`
abbrev pub IsPrefixed : Characters → Type 0
IsPrefixed text =
    ((raw : Characters) × (text ≡ letter_r ∷ raw) × IsRaw false raw)
    ⊎ (((string : Characters) × (text ≡ letter_b ∷ string) × IsString true string)
    ⊎ (((raw : Characters) × (text ≡ letter_b ∷ letter_r ∷ raw) × IsRaw true raw)
    ⊎ ((ticked : Characters) × (text ≡ letter_b ∷ ticked) × IsTicked true ticked)))
