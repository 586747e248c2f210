-- Classes of the characters of a text, each a number.
use Rattle.std.specs.Prelude.{ℕ, Bool, false, ◌==◌, List, [], ◌∷◌, codes}
use Rattle.std.specs.List.{list_any}
use Rattle.tok_types.specs.Names.{continues_name}
use Rattle.tok_types.specs.declared.tree.Delimiter.{Delimiter}
use Rattle.tok_types.specs.declared.tree.Delimiter.TheVariants as delimiter

-- the characters of a text, or of a part of it
abbrev pub Characters : Type 0
Characters = List ℕ

-- the first character is one of these
abbrev pub begins : (ℕ → Bool) → Characters → Bool
begins p [] = false
begins p (c ∷ cs) = p c

-- tab to carriage return, space, next line, the marks of direction, the separators of lines and paragraphs
abbrev pub whites : Characters
whites = 9 ∷ 10 ∷ 11 ∷ 12 ∷ 13 ∷ 32 ∷ 0x85 ∷ 0x200E ∷ 0x200F ∷ 0x2028 ∷ 0x2029 ∷ []

-- white space
abbrev pub is_white : ℕ → Bool
is_white c = list_any (λ w. c == w) whites

-- an identifier could go on here
abbrev pub continues : Characters → Bool
continues = begins continues_name

-- the marks of punctuation
abbrev pub marks : Characters
marks = codes "+-*/%^!&|=<>@.,;:#$?~"

-- a mark
abbrev pub is_mark : ℕ → Bool
is_mark c = list_any (λ m. c == m) marks

-- how a group begins in a text
abbrev pub opening : Delimiter → Characters
opening delimiter.Parenthesis = codes "("
opening delimiter.Bracket = codes "["
opening delimiter.Brace = codes "{"
opening delimiter.None = []

-- how a group ends in a text
abbrev pub closing : Delimiter → Characters
closing delimiter.Parenthesis = codes ")"
closing delimiter.Bracket = codes "]"
closing delimiter.Brace = codes "}"
closing delimiter.None = []
