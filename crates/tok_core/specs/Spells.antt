-- Which tokens a text spells.
use Rattle.std.specs.Prelude.{◌≡◌, ℕ, ◌+◌, ◌-◌, true, false, ◌&&◌, ◌==◌, if◌then◌else◌, List, [], ◌∷◌, ◌++◌, length, take, drop, slice_index, slice_range, codes, Some}
use Rattle.std.specs.Str.{encode_utf8_all}
use Rattle.tok_types.specs.Ascii.{carriage_return, hash, letter_r}
use Rattle.tok_scan.specs.Characters.{Characters}
use Rattle.tok_scan.specs.Pieces.{IsPieceAt}
use Rattle.tok_scan.specs.declared.kind.Kind.{Kind}
use Rattle.tok_scan.specs.declared.kind.Kind.TheVariants as kind
use Rattle.tok_types.specs.declared.ident.Ident.{Ident}
use Rattle.tok_types.specs.declared.span.Span.{Span}
use Rattle.tok_types.specs.declared.span.Span.TheVariants.{At}
use Rattle.tok_types.specs.declared.tree.Delimiter.TheVariants as delimiter
use Rattle.tok_types.specs.declared.tree.TokenStream.{TokenStream}
use Rattle.tok_core.specs.Flat.{Flat, token, ident, lifetime, punct, literal, opening, closing, start_of, end_of, flat_stream}
use Rattle.tok_core.specs.Quoted.{quoted}

-- a piece of a text: its characters, those after it, and the bytes that it stands at
pub record Piece : Type 0 where
  pub kind : Kind
  pub text : Characters
  pub after : Characters
  pub start : ℕ
  pub end : ℕ

-- The pieces stand one after another from byte `from`, where `text` begins, to byte `to`, where `rest` begins.
abbrev pub Stand : ℕ → Characters → List Piece → ℕ → Characters → Type 0
Stand from text [] to rest = (from ≡ to) × (text ≡ rest)
Stand from text (p ∷ ps) to rest =
    (p.start ≡ from)
    × (p.end ≡ from + length (encode_utf8_all p.text))
    × IsPieceAt p.kind text p.text p.after
    × Stand p.end p.after ps to rest

-- The bytes of the piece's characters are those of the text where the piece stands.
abbrev pub IsAtItsBytes : List ℕ → Piece → Type 0
IsAtItsBytes text p = slice_range text p.start p.end ≡ encode_utf8_all p.text

-- the characters without a carriage return at their end
abbrev pub without_return : Characters → Characters
without_return text =
    let front = length text - 1 in
    if slice_index text front == carriage_return then take front text else text

-- what the tokens of a piece keep of its characters where `after` follows: all, but of a documentation
-- comment a carriage return before its line feed
abbrev pub kept : Kind → Characters → Characters → Characters
kept kind.Doc text (c ∷ after) = without_return text
kept k text after = text

-- the identifier that is written so: raw after `r#`
abbrev pub ident_of : Characters → Span → Ident
ident_of text span =
    if slice_index text 0 == letter_r && slice_index text 1 == hash
    then record { text = encode_utf8_all (drop 2 text); raw = true; span = span }
    else record { text = encode_utf8_all text; raw = false; span = span }

-- the flat tokens of `#[doc = "text"]`, all with the comment's span
abbrev pub doc_tokens : Characters → Span → List Flat
doc_tokens text span =
    token (punct (record { ch = 35; joint = false; span = span }))
    ∷ opening delimiter.Bracket (start_of span)
    ∷ token (ident (record { text = codes "doc"; raw = false; span = span }))
    ∷ token (punct (record { ch = 61; joint = false; span = span }))
    ∷ token (literal (record { text = encode_utf8_all (quoted text); span = span }))
    ∷ closing delimiter.Bracket (end_of span)
    ∷ []

-- the flat tokens of a piece of which these characters are kept, and that stands from `start` to `end` in the text `source`
abbrev pub token_of : ℕ → Kind → Characters → ℕ → ℕ → List Flat
token_of source kind.White text start end = []
token_of source kind.Comment text start end = []
token_of source kind.Doc text start end = doc_tokens (drop 3 text) (At source start end)
token_of source kind.Ident text start end = token (ident (ident_of text (At source start end))) ∷ []
token_of source kind.RawIdent text start end = token (ident (ident_of text (At source start end))) ∷ []
token_of source kind.Lifetime text start end =
    token (lifetime (record { ident = ident_of (drop 1 text) (At source start end) })) ∷ []
token_of source (kind.Mark joint) text start end =
    token (punct (record { ch = slice_index text 0; joint = joint; span = At source start end })) ∷ []
token_of source kind.Literal text start end =
    token (literal (record { text = encode_utf8_all text; span = At source start end })) ∷ []
token_of source (kind.Open d) text start end = opening d (Some (source, start)) ∷ []
token_of source (kind.Close d) text start end = closing d (Some (source, end)) ∷ []

-- the flat tokens of the pieces
abbrev pub tokens_of : ℕ → List Piece → List Flat
tokens_of source [] = []
tokens_of source (p ∷ ps) = token_of source p.kind (kept p.kind p.text p.after) p.start p.end ++ tokens_of source ps

-- The text is pieces, and the stream has their tokens: so its groups are what stands between matched delimiters.
pub record Spells (source : ℕ) (text : Characters) (tokens : TokenStream) : Type 0 where
  pub pieces : List Piece
  pub end : ℕ
  pub stand : Stand 0 text pieces end []
  pub same : flat_stream tokens ≡ tokens_of source pieces
