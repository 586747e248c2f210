-- The text of tokens.
use Rattle.std.specs.Prelude.{ℕ, Bool, true, false, if◌then◌else◌, List, [], ◌++◌, codes, encode_utf8}
use Rattle.std.specs.Str.{encode_utf8_all}
use Rattle.tok_scan.specs.Characters as characters
use Rattle.tok_types.specs.Ident.{ident_text}
use Rattle.tok_types.specs.declared.tree.TokenStream.{TokenStream}
use Rattle.tok_core.specs.Flat.{Token, ident, lifetime, punct, literal, Tree, Trees, leaf, branch, no_trees, more_trees, stream_view}

-- a token as it is written
abbrev pub token_text : Token → List ℕ
token_text (ident it) = ident_text it
token_text (lifetime it) = codes "'" ++ ident_text it.ident
token_text (punct it) = encode_utf8 it.ch
token_text (literal it) = it.text

-- whether the token is a mark that the next one follows directly
abbrev pub joins : Token → Bool
joins (ident it) = false
joins (lifetime it) = false
joins (punct it) = it.joint
joins (literal it) = false

-- the same of a tree
abbrev pub tree_joins : Tree → Bool
tree_joins (leaf it) = joins it
tree_joins (branch d ts span) = false

-- what stands between two trees, where the first joins the second, or does not
abbrev pub between : Bool → List ℕ
between joint = if joint then [] else codes " "

-- The text of a tree, and of trees: a group between its delimiters, one space between two
-- neighbours, and none after a joint mark. The first tree is joined to what is before it, or not.
abbrev mutual
  pub text_of : Tree → List ℕ
  text_of (leaf it) = token_text it
  text_of (branch d ts span) =
      encode_utf8_all (characters.opening d) ++ (texts_of true ts ++ encode_utf8_all (characters.closing d))

  pub texts_of : Bool → Trees → List ℕ
  texts_of joint no_trees = []
  texts_of joint (more_trees t ts) = between joint ++ (text_of t ++ texts_of (tree_joins t) ts)

-- the text of a stream
abbrev pub stream_text : TokenStream → List ℕ
stream_text s = texts_of true (stream_view s)
