-- A text as a string literal.
use Rattle.std.specs.Prelude.{ℕ, ◌==◌, if◌then◌else◌, [], ◌∷◌, ◌++◌, flat_map, codes}
use Rattle.tok_types.specs.Ascii.{backslash, carriage_return, double_quote, line_feed, tab}
use Rattle.tok_scan.specs.Characters.{Characters}

-- a character of it: `\`, `"`, line feed, carriage return, tab and NUL by an escape, any other as it is
abbrev pub escaped : ℕ → Characters
escaped c =
    if c == backslash then codes "\\\\"
    else if c == double_quote then codes "\\\""
    else if c == line_feed then codes "\\n"
    else if c == carriage_return then codes "\\r"
    else if c == tab then codes "\\t"
    else if c == 0 then codes "\\0" else c ∷ []

-- the characters between quotes
abbrev pub quoted : Characters → Characters
quoted text = double_quote ∷ (flat_map escaped text ++ double_quote ∷ [])
