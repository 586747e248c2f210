-- The flat tokens that a stream of trees stands for.
use Rattle.std.specs.Prelude.{ℕ, suc, List, [], ◌∷◌, ◌++◌, map, Option, Some, None, max}
use Rattle.tok_types.specs.declared.ident.Ident.{Ident}
use Rattle.tok_types.specs.declared.ident.Lifetime.{Lifetime}
use Rattle.tok_types.specs.declared.span.Span.{Span}
use Rattle.tok_types.specs.declared.span.Span.TheVariants.{CallSite, At}
use Rattle.tok_types.specs.declared.tree.Delimiter.{Delimiter}
use Rattle.tok_types.specs.declared.tree.Literal.{Literal}
use Rattle.tok_types.specs.declared.tree.Punct.{Punct}
use Rattle.tok_types.specs.declared.tree.TokenStream.{TokenStream}
use Rattle.tok_types.specs.declared.tree.TokenTree.{TokenTree}
use Rattle.tok_types.specs.declared.tree.TokenTree.TheFolds.{fold-TokenTree, fold-TokenStream}
use Rattle.tok_types.specs.declared.tree.TokenTree.TheOpen.{TokenTree-F, Group-F, TokenStream-F}

-- a source and one of its bytes, or none
abbrev pub Place : Type 0
Place = Option (ℕ × ℕ)

-- where a span begins
abbrev pub start_of : Span → Place
start_of CallSite = None
start_of (At source start end) = Some (source, start)

-- where a span ends
abbrev pub end_of : Span → Place
end_of CallSite = None
end_of (At source start end) = Some (source, end)

-- a token that is no group
pub data Token : Type 0 where
  ident : Ident → Token
  lifetime : Lifetime → Token
  punct : Punct → Token
  literal : Literal → Token

-- a flat token: a group is two of them, with those inside between
pub data Flat : Type 0 where
  token : Token → Flat
  opening : Delimiter → Place → Flat
  closing : Delimiter → Place → Flat

-- a tree, and trees, in a form that definitions recurse on
mutual
  pub data Tree : Type 0 where
    leaf : Token → Tree
    branch : Delimiter → Trees → Span → Tree

  pub data Trees : Type 0 where
    no_trees : Trees
    more_trees : Tree → Trees → Trees

-- the trees of a list
abbrev pub trees_of : List Tree → Trees
trees_of [] = no_trees
trees_of (t ∷ ts) = more_trees t (trees_of ts)

-- one token, where the stream of a group is seen
abbrev pub tree_step : TokenTree-F Tree Tree Trees → Tree
tree_step (TokenTree-F.Ident it) = leaf (ident it)
tree_step (TokenTree-F.Lifetime it) = leaf (lifetime it)
tree_step (TokenTree-F.Punct it) = leaf (punct it)
tree_step (TokenTree-F.Literal it) = leaf (literal it)
tree_step (TokenTree-F.Group seen) = seen

-- one group, where its stream is seen
abbrev pub group_step : Group-F Tree Tree Trees → Tree
group_step g = branch g.delimiter g.stream g.span

-- one stream, where its trees are seen
abbrev pub stream_step : TokenStream-F Tree Tree Trees → Trees
stream_step s = trees_of s.trees

-- the program's tree in that form
abbrev pub tree_view : TokenTree → Tree
tree_view = fold-TokenTree Tree Tree Trees tree_step group_step stream_step

-- the program's stream in that form
abbrev pub stream_view : TokenStream → Trees
stream_view = fold-TokenStream Tree Tree Trees tree_step group_step stream_step

-- the flat tokens of a tree, and of trees
abbrev mutual
  pub flat_of : Tree → List Flat
  flat_of (leaf it) = token it ∷ []
  flat_of (branch d ts span) = opening d (start_of span) ∷ (flats_of ts ++ closing d (end_of span) ∷ [])

  pub flats_of : Trees → List Flat
  flats_of no_trees = []
  flats_of (more_trees t ts) = flat_of t ++ flats_of ts

-- how deep groups nest in a tree, and in trees
abbrev mutual
  pub depth_of : Tree → ℕ
  depth_of (leaf it) = 0
  depth_of (branch d ts span) = suc (depths_of ts)

  pub depths_of : Trees → ℕ
  depths_of no_trees = 0
  depths_of (more_trees t ts) = max (depth_of t) (depths_of ts)

-- the flat tokens of the program's tree
abbrev pub flat_tree : TokenTree → List Flat
flat_tree t = flat_of (tree_view t)

-- the flat tokens of a list of the program's trees
abbrev pub flat_trees : List TokenTree → List Flat
flat_trees ts = flats_of (trees_of (map tree_view ts))

-- the flat tokens of a stream
abbrev pub flat_stream : TokenStream → List Flat
flat_stream s = flats_of (stream_view s)
