-- How deep groups may nest, and where a text that spells no tokens is refused.
use Rattle.std.specs.Prelude.{◌≡◌, ◌≤◌, ◌<◌, ◌⊎◌, ℕ, Bool, true, false, List, [], ◌∷◌, length, drop, nat_lt, if◌then◌else◌, option_and_then, Option, Some, None, Result, Err}
use Rattle.tok_scan.specs.Characters.{Characters}
use Rattle.tok_scan.specs.Pieces.{IsPieceAt}
use Rattle.tok_scan.specs.declared.kind.Kind.{Kind}
use Rattle.tok_scan.specs.declared.kind.Kind.TheVariants as kind
use Rattle.tok_types.specs.Delimiter.{same_delimiter}
use Rattle.tok_types.specs.declared.tree.Delimiter.{Delimiter}
use Rattle.tok_types.specs.declared.tree.TokenStream.{TokenStream}
use Rattle.tok_core.specs.Flat.{Flat, token, opening, closing, flat_stream, stream_view, depths_of}
use Rattle.tok_core.specs.Spells.{Piece, Stand, tokens_of}
use Rattle.tok_core.specs.declared.error.LexError.{LexError}
use Rattle.tok_core.specs.declared.error.LexError.TheVariants.{TooDeep, Syntax, NoMemory}

-- how many groups may be open at once
abbrev pub limit : ℕ
limit = 128

-- Groups nest at most that deep.
abbrev pub IsWithin : TokenStream → Type 0
IsWithin tokens = depths_of (stream_view tokens) ≤ limit

-- whether the innermost of the open delimiters, which is the first, is this one
abbrev pub is_top : Delimiter → List Delimiter → Bool
is_top d [] = false
is_top d (e ∷ stack) = same_delimiter d e

-- the delimiters that are open after a token; none where it closes another, or opens one too many
abbrev pub open_after_one : Flat → List Delimiter → Option (List Delimiter)
open_after_one (token it) stack = Some stack
open_after_one (opening d place) stack = if nat_lt (length stack) limit then Some (d ∷ stack) else None
open_after_one (closing d place) stack = if is_top d stack then Some (drop 1 stack) else None

-- the delimiters that are open after tokens
abbrev pub open_after : List Flat → List Delimiter → Option (List Delimiter)
open_after [] stack = Some stack
open_after (f ∷ fs) stack = option_and_then (open_after fs) (open_after_one f stack)

-- Each delimiter of the stream is matched, with at most so many open.
abbrev pub Closes : TokenStream → Type 0
Closes tokens = open_after (flat_stream tokens) [] ≡ Some []

-- how the reading of a text ends
pub data Ending : Type 0 where
  done : Ending
  deep : Ending
  wrong : Ending

-- No piece starts here, though the text goes on.
abbrev pub IsNoPiece : Characters → Type 0
IsNoPiece rest = (0 < length rest) × ((k : Kind) (text after : Characters) → IsPieceAt k rest text after → ⊥)

-- whether a group starts with a piece of this kind, as that of a documentation comment
abbrev pub starts_group : Kind → Bool
starts_group (kind.Open d) = true
starts_group kind.Doc = true
starts_group _ = false

-- A group starts here that is one too many.
abbrev pub OpensTooMany : List Delimiter → Characters → Type 0
OpensTooMany stack rest =
    (k : Kind) × (text : Characters) × (after : Characters)
    × IsPieceAt k rest text after × (starts_group k ≡ true) × (nat_lt (length stack) limit ≡ false)

-- A delimiter stands here that does not close the innermost open one.
abbrev pub ClosesAnother : List Delimiter → Characters → Type 0
ClosesAnother stack rest =
    (d : Delimiter) × (text : Characters) × (after : Characters)
    × IsPieceAt (kind.Close d) rest text after × (is_top d stack ≡ false)

-- With these delimiters open and these characters left, the reading ends so.
abbrev pub Stops : List Delimiter → Characters → Ending → Type 0
Stops stack rest done = (rest ≡ []) × (stack ≡ [])
Stops stack rest deep = OpensTooMany stack rest
Stops stack rest wrong = ((rest ≡ []) × (0 < length stack)) ⊎ (IsNoPiece rest ⊎ ClosesAnother stack rest)

-- The pieces before byte `at` stand there and their delimiters match, and there the reading ends so.
pub record EndsAt (source : ℕ) (text : Characters) (at : ℕ) (e : Ending) : Type 0 where
  pub pieces : List Piece
  pub rest : Characters
  pub stack : List Delimiter
  pub stand : Stand 0 text pieces at rest
  pub matched : open_after (tokens_of source pieces) [] ≡ Some stack
  pub stops : Stops stack rest e

-- The text is refused with this error, rightly.
abbrev pub Refused : ℕ → Characters → LexError → Type 0
Refused source text (TooDeep at) = EndsAt source text at deep
Refused source text (Syntax at) = EndsAt source text at wrong
Refused source text NoMemory = Unit {0}

-- The result is this answer, unless memory ran out.
abbrev pub Answers : Result TokenStream LexError → Result TokenStream LexError → Type 0
Answers result answer = (result ≡ answer) ⊎ (result ≡ Err NoMemory)
