-- One token of a list, and marks of several characters.
use Rattle.std.specs.Prelude.{ℕ, Bool, true, false, ◌&&◌, not, ◌==◌, List, [], ◌∷◌, Option, Some, None}
use Rattle.tok_types.specs.Ascii.{ampersand, bar, colon, comma, dot, equals, greater, less, minus, plus, question, semicolon}
use Rattle.tok_types.specs.Delimiter.{same_delimiter}
use Rattle.tok_types.specs.declared.ident.Ident.{Ident}
use Rattle.tok_types.specs.declared.ident.Lifetime.{Lifetime}
use Rattle.tok_types.specs.declared.span.Span.{Span}
use Rattle.tok_types.specs.declared.tree.Delimiter.{Delimiter}
use Rattle.tok_types.specs.declared.tree.Literal.{Literal}
use Rattle.tok_types.specs.declared.tree.Group.{Group, out-Group}
use Rattle.tok_types.specs.declared.tree.TokenStream.{TokenStream, out-TokenStream}
use Rattle.tok_types.specs.declared.tree.TokenTree.{TokenTree, out-TokenTree}
use Rattle.tok_types.specs.declared.tree.TokenTree.TheOpen.{TokenTree-F}

abbrev pub Layer : Type 0
Layer = TokenTree-F TokenTree Group TokenStream

abbrev pub span_in : Layer → Span
span_in (TokenTree-F.Ident ident) = ident.span
span_in (TokenTree-F.Lifetime lifetime) = lifetime.ident.span
span_in (TokenTree-F.Punct punct) = punct.span
span_in (TokenTree-F.Literal literal) = literal.span
span_in (TokenTree-F.Group group) = (out-Group group).span

-- where a token stands
unfoldable pub span_of : TokenTree → Span
span_of tree = span_in (out-TokenTree tree)

abbrev pub is_group_in : Delimiter → Layer → Bool
is_group_in between (TokenTree-F.Group group) = same_delimiter (out-Group group).delimiter between
is_group_in between _ = false

-- whether a group between these delimiters comes next
unfoldable pub is_group : Delimiter → List TokenTree → Bool
is_group between [] = false
is_group between (tree ∷ trees) = is_group_in between (out-TokenTree tree)

abbrev pub contents_in : Layer → List TokenTree
contents_in (TokenTree-F.Group group) = (out-TokenStream (out-Group group).stream).trees
contents_in _ = []

-- the tokens in the group that comes next
unfoldable pub contents_of : List TokenTree → List TokenTree
contents_of [] = []
contents_of (tree ∷ trees) = contents_in (out-TokenTree tree)

abbrev pub ident_in : Layer → Option Ident
ident_in (TokenTree-F.Ident ident) = Some ident
ident_in _ = None

-- the identifier token that comes next, a keyword too
unfoldable pub ident_of : List TokenTree → Option Ident
ident_of [] = None
ident_of (tree ∷ trees) = ident_in (out-TokenTree tree)

abbrev pub lifetime_in : Layer → Option Lifetime
lifetime_in (TokenTree-F.Lifetime lifetime) = Some lifetime
lifetime_in _ = None

unfoldable pub lifetime_of : List TokenTree → Option Lifetime
lifetime_of [] = None
lifetime_of (tree ∷ trees) = lifetime_in (out-TokenTree tree)

abbrev pub literal_in : Layer → Option Literal
literal_in (TokenTree-F.Literal literal) = Some literal
literal_in _ = None

unfoldable pub literal_of : List TokenTree → Option Literal
literal_of [] = None
literal_of (tree ∷ trees) = literal_in (out-TokenTree tree)

-- ---- marks

abbrev pub mark_in : Layer → ℕ
mark_in (TokenTree-F.Punct punct) = punct.ch
mark_in _ = 0

-- the mark that comes next, 0 where none does
unfoldable pub mark_of : List TokenTree → ℕ
mark_of [] = 0
mark_of (tree ∷ trees) = mark_in (out-TokenTree tree)

abbrev pub joint_in : Layer → Bool
joint_in (TokenTree-F.Punct punct) = punct.joint
joint_in _ = false

-- whether a joint mark comes next
unfoldable pub is_joint : List TokenTree → Bool
is_joint [] = false
is_joint (tree ∷ trees) = joint_in (out-TokenTree tree)

-- what follows the next token
abbrev pub after_one : List TokenTree → List TokenTree
after_one [] = []
after_one (tree ∷ trees) = trees

abbrev pub is_mark : ℕ → List TokenTree → Bool
is_mark ch trees = mark_of trees == ch

-- a joint mark and its follower
unfoldable pub is_pair : ℕ → ℕ → List TokenTree → Bool
is_pair first second trees = is_joint trees && (mark_of trees == first && mark_of (after_one trees) == second)

-- `,`
abbrev pub is_comma : List TokenTree → Bool
is_comma = is_mark comma

-- `;`
abbrev pub is_semicolon : List TokenTree → Bool
is_semicolon = is_mark semicolon

-- `=`
abbrev pub is_equals : List TokenTree → Bool
is_equals = is_mark equals

-- `<`
abbrev pub is_less : List TokenTree → Bool
is_less = is_mark less

-- `>`
abbrev pub is_greater : List TokenTree → Bool
is_greater = is_mark greater

-- `|`
abbrev pub is_bar : List TokenTree → Bool
is_bar = is_mark bar

-- `&`
abbrev pub is_and : List TokenTree → Bool
is_and = is_mark ampersand

-- `+`
abbrev pub is_plus : List TokenTree → Bool
is_plus = is_mark plus

-- `?`
abbrev pub is_question : List TokenTree → Bool
is_question = is_mark question

-- `::`
abbrev pub is_colons : List TokenTree → Bool
is_colons = is_pair colon colon

-- `:` and no second one
abbrev pub is_colon : List TokenTree → Bool
is_colon trees = is_mark colon trees && not (is_colons trees)

-- `->`
abbrev pub is_arrow : List TokenTree → Bool
is_arrow = is_pair minus greater

-- `..`
abbrev pub is_dots : List TokenTree → Bool
is_dots = is_pair dot dot

-- `..=`
abbrev pub is_closed_dots : List TokenTree → Bool
is_closed_dots trees = is_dots trees && is_pair dot equals (after_one trees)

-- `::<`
abbrev pub is_turbofish : List TokenTree → Bool
is_turbofish trees = is_colons trees && is_less (after_one (after_one trees))
