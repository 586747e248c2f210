-- Where raw forms can end: at each place of a text, the most `#` behind a `"` from there on.
use Rattle.std.specs.Prelude.{◌≡◌, ◌⊎◌, ℕ, ◌+◌, ◌==◌, Bool, true, false, if◌then◌else◌, min, max, nat_le, List, [], ◌∷◌}
use Rattle.std.specs.List.{prefix_len}
use Rattle.tok_types.specs.Ascii.{double_quote, hash}
use Rattle.tok_scan.specs.Characters.{Characters}
use Rattle.tok_scan.specs.Strings.{fits, is_hash}
use Rattle.tok_scan.specs.declared.ends.Closing.{Closing}

-- the most `#`, up to 255, behind a `"` of the text; in a form of bytes, of what stands before a character that is no ASCII
abbrev pub most_hashes : Bool → Characters → ℕ
most_hashes byte [] = 0
most_hashes byte (c ∷ cs) =
    if c == double_quote then max (min (prefix_len is_hash cs) 255) (most_hashes byte cs)
    else if fits byte c then most_hashes byte cs else 0

-- of both forms
abbrev pub closing_of : Characters → Closing
closing_of text = record { text = most_hashes false text; bytes = most_hashes true text }

-- at each place of the text
abbrev pub closings_of : Characters → List Closing
closings_of [] = []
closings_of (c ∷ cs) = closing_of (c ∷ cs) ∷ closings_of cs

-- the most in one form
abbrev pub most_of : Bool → Closing → ℕ
most_of byte closing = if byte then closing.bytes else closing.text

-- a number of `#`, up to 255, with one more character in front
abbrev pub more_hashes : ℕ → ℕ → ℕ
more_hashes hashes c = if c == hash then min (hashes + 1) 255 else 0

-- the most in one form, with one more character in front of so many `#`
abbrev pub more_most : Bool → ℕ → ℕ → ℕ → ℕ
more_most byte most hashes c = if c == double_quote then max hashes most else if fits byte c then most else 0

-- nothing is known, or where raw forms can end at each place of the text
abbrev pub AreClosings : List Closing → Characters → Type 0
AreClosings closings text = (closings ≡ []) ⊎ (closings ≡ closings_of text)

-- by what is known, a raw form with so many `#` may end in what begins here
abbrev pub can_close : Bool → ℕ → List Closing → Bool
can_close byte hashes [] = true
can_close byte hashes (closing ∷ closings) = nat_le hashes (most_of byte closing)
