-- The tokens of a text, computed.
use Rattle.std.specs.Prelude.{ℕ, zero, suc, ◌+◌, nat_le, nat_lt, if◌then◌else◌, List, [], ◌∷◌, ◌++◌, length, take, drop, Option, Some, None, option_map, option_and_then, chars}
use Rattle.std.specs.Str.{encode_utf8_all}
use Rattle.base_core.specs.declared.text.Text.{Text}
use Rattle.tok_scan.specs.Characters.{Characters}
use Rattle.tok_scan.specs.Scan.{piece}
use Rattle.tok_scan.specs.declared.kind.Found.{Found}
use Rattle.tok_types.specs.Delimiter.{same_delimiter}
use Rattle.tok_types.specs.Respan.{stream_at}
use Rattle.tok_types.specs.Stream.{stream_of}
use Rattle.tok_types.specs.declared.span.Span.{Span}
use Rattle.tok_types.specs.declared.span.Span.TheVariants.{CallSite, At}
use Rattle.tok_types.specs.declared.tree.Delimiter.{Delimiter}
use Rattle.tok_types.specs.declared.tree.Group.{roll-Group}
use Rattle.tok_types.specs.declared.tree.TokenStream.{TokenStream}
use Rattle.tok_types.specs.declared.tree.TokenTree.{TokenTree}
use Rattle.tok_types.specs.declared.tree.TokenTree.TheVariants as tree
use Rattle.tok_core.specs.Endings.{limit}
use Rattle.tok_core.specs.Flat.{Place, Token, ident, lifetime, punct, literal, Flat, token, opening, closing}
use Rattle.tok_core.specs.Spells.{Piece, tokens_of}
use Rattle.tok_core.specs.declared.reading.TheConstants.{MAX_LEN}

-- ---- pieces

-- the piece that is found at the front of this text, which begins at byte `start`
abbrev pub found_piece : ℕ → Characters → Found → Piece
found_piece start text found =
    let front = take found.length text in
    record { kind = found.kind; text = front; after = drop found.length text; start = start; end = start + length (encode_utf8_all front) }

-- the piece at the front, if any
abbrev pub first_piece : ℕ → Characters → Option Piece
first_piece start text = option_map (found_piece start text) (piece text)

-- the pieces of this text of at most `count` characters, which begins at byte `start`; none where at some place no piece begins
abbrev pub pieces : ℕ → ℕ → Characters → Option (List Piece)
pieces count start [] = Some []
pieces zero start (c ∷ cs) = None
pieces (suc count) start (c ∷ cs) =
    option_and_then (λ first. option_map (λ more. first ∷ more) (pieces count first.end first.after)) (first_piece start (c ∷ cs))

-- ---- trees

-- the tree of a token that is no group
abbrev pub tree_of : Token → TokenTree
tree_of (ident it) = tree.Ident it
tree_of (lifetime it) = tree.Lifetime it
tree_of (punct it) = tree.Punct it
tree_of (literal it) = tree.Literal it

-- the span from one place to another of the same text
abbrev pub span_between : Place → Place → Span
span_between (Some from) (Some to) = At from.0 from.1 to.1
span_between _ _ = CallSite

-- an open group: its delimiter, where it starts, and the trees before it
pub record OpenGroup : Type 0 where
  pub delimiter : Delimiter
  pub start : Place
  pub before : List TokenTree

-- the group that has these trees inside and ends there
abbrev pub group_of : OpenGroup → List TokenTree → Place → TokenTree
group_of group trees end = tree.Group (roll-Group (record { delimiter = group.delimiter; stream = stream_of trees; span = span_between group.start end }))

-- the trees of flat tokens inside these open groups, the innermost first, behind the trees that stand there so far;
-- none where a delimiter closes another, where one group too many starts, or where one stays open
abbrev pub trees_in : List OpenGroup → List TokenTree → List Flat → Option (List TokenTree)
trees_in groups trees (token it ∷ fs) = trees_in groups (trees ++ tree_of it ∷ []) fs
trees_in groups trees (opening d place ∷ fs) =
    if nat_lt (length groups) limit then trees_in (record { delimiter = d; start = place; before = trees } ∷ groups) [] fs else None
trees_in [] trees (closing d place ∷ fs) = None
trees_in (group ∷ outer) trees (closing d place ∷ fs) =
    if same_delimiter d group.delimiter then trees_in outer (group.before ++ group_of group trees place ∷ []) fs else None
trees_in [] trees [] = Some trees
trees_in (group ∷ outer) trees [] = None

-- ---- texts

-- the tokens of the text with this number; none where it spells none, or where groups nest too deep
unfoldable pub lexed : ℕ → Characters → Option TokenStream
lexed source text = option_map stream_of (option_and_then (λ ps. trees_in [] [] (tokens_of source ps)) (pieces (length text) 0 text))

-- what a literal of this text at this span is read from: the tokens of the text, all at the span; none where it has none, or is too long
unfoldable pub tokens_in : Text → Span → Option TokenStream
tokens_in text span = if nat_le (length text) MAX_LEN then option_map (stream_at span) (lexed 0 (chars text)) else None
