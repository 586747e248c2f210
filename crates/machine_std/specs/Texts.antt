-- Texts: without spaces at their ends, and behind a prefix.
use Rattle.std.specs.Prelude.{ℕ, ◌-◌, Bool, if◌then◌else◌, ◌==◌, [], ◌∷◌, length, take, drop, Option, Some, None}
use Rattle.std.specs.List.{prefix_len, suffix_len}
use Rattle.base_core.specs.declared.text.Text.{Text}

-- a space
abbrev pub is_space : ℕ → Bool
is_space byte = byte == 0x20

-- the text behind the spaces that it begins with
abbrev pub without_front : Text → Text
without_front text = drop (prefix_len is_space text) text

-- the text before the spaces that it ends with
abbrev pub without_back : Text → Text
without_back text = take (length text - suffix_len is_space text) text

-- the text without the spaces at both ends
abbrev pub trimmed : Text → Text
trimmed text = without_back (without_front text)

-- what stands behind the front, where the text begins with it
abbrev pub behind : Text → Text → Option Text
behind [] text = Some text
behind (byte ∷ front) [] = None
behind (byte ∷ front) (first ∷ text) = if first == byte then behind front text else None
