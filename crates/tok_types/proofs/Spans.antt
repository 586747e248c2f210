-- A tree is equal to what it becomes where its spans are replaced.
use Rattle.std.proofs.Common.{◌≡◌, true, List, [], ◌∷◌, map, refl, subst, rules}
use Rattle.std.specs.Cmp.Lexicographic.{pointwise}
use Rattle.tok_types.specs.Respan.{group_at, stream_at, tree_at}
use Rattle.tok_types.specs.contracts.tree.GroupPartialEq.TheImpl as group_eq
use Rattle.tok_types.specs.contracts.tree.GroupPartialEq.TheImpl.Laws as group_laws
use Rattle.tok_types.specs.contracts.tree.TokenStreamPartialEq.TheImpl as stream_eq
use Rattle.tok_types.specs.contracts.tree.TokenStreamPartialEq.TheImpl.Laws as stream_laws
use Rattle.tok_types.specs.contracts.tree.TokenTreePartialEq.TheImpl as tree_eq
use Rattle.tok_types.specs.contracts.tree.TokenTreePartialEq.TheImpl.Laws as tree_laws
use Rattle.tok_types.specs.declared.span.Span.{Span}
use Rattle.tok_types.specs.declared.tree.Group.{Group, roll-Group}
use Rattle.tok_types.specs.declared.tree.TokenStream.{TokenStream, roll-TokenStream}
use Rattle.tok_types.specs.declared.tree.TokenTree.{TokenTree, roll-TokenTree, the_lemmas}
use Rattle.tok_types.specs.declared.tree.TokenTree.TheFolds.{ind-Group, ind-TokenStream, ind-TokenTree, map-Group, map-TokenStream, map-TokenTree}
use Rattle.tok_types.specs.declared.tree.TokenTree.TheOpen.{TokenTree-F, Group-F, TokenStream-F}

module _ (s : Span) where
  abbrev EqualsTree : TokenTree → Type 0
  EqualsTree t = tree_eq.ghosts.eq t (tree_at s t) ≡ true

  abbrev EqualsGroup : Group → Type 0
  EqualsGroup g = group_eq.ghosts.eq g (group_at s g) ≡ true

  abbrev EqualsStream : TokenStream → Type 0
  EqualsStream z = stream_eq.ghosts.eq z (stream_at s z) ≡ true

  abbrev SureTree : Type 0
  SureTree = (t : TokenTree) × EqualsTree t

  abbrev SureGroup : Type 0
  SureGroup = (g : Group) × EqualsGroup g

  abbrev SureStream : Type 0
  SureStream = (z : TokenStream) × EqualsStream z

  -- without what is sure
  abbrev bare_tree : TokenTree-F SureTree SureGroup SureStream → TokenTree-F TokenTree Group TokenStream
  bare_tree = map-TokenTree SureTree SureGroup SureStream TokenTree Group TokenStream (λ e. e.0) (λ e. e.0) (λ e. e.0)

  abbrev bare_group : Group-F SureTree SureGroup SureStream → Group-F TokenTree Group TokenStream
  bare_group = map-Group SureTree SureGroup SureStream TokenTree Group TokenStream (λ e. e.0) (λ e. e.0) (λ e. e.0)

  abbrev bare_stream : TokenStream-F SureTree SureGroup SureStream → TokenStream-F TokenTree Group TokenStream
  bare_stream = map-TokenStream SureTree SureGroup SureStream TokenTree Group TokenStream (λ e. e.0) (λ e. e.0) (λ e. e.0)

  tree : (y : TokenTree-F SureTree SureGroup SureStream) → EqualsTree (roll-TokenTree (bare_tree y))
  tree (TokenTree-F.Ident it) = search (rules, the_lemmas, tree_laws.is)
  tree (TokenTree-F.Lifetime it) = search (rules, the_lemmas, tree_laws.is)
  tree (TokenTree-F.Punct it) = search (rules, the_lemmas, tree_laws.is)
  tree (TokenTree-F.Literal it) = search (rules, the_lemmas, tree_laws.is)
  tree (TokenTree-F.Group sure) = search (rules, the_lemmas, tree_laws.is, sure.1)

  trees : (sures : List SureTree) → pointwise tree_eq.ghosts.eq (map (λ e. e.0) sures) (map (tree_at s) (map (λ e. e.0) sures)) ≡ true
  trees [] = refl
  trees (sure ∷ sures) = rw (sure.1) (trees sures)

  group : (x : Group-F TokenTree Group TokenStream) → EqualsStream x.stream → EqualsGroup (roll-Group x)
  group x inner = search (rules, the_lemmas, group_laws.is, inner)

  stream : (x : TokenStream-F TokenTree Group TokenStream) → pointwise tree_eq.ghosts.eq x.trees (map (tree_at s) x.trees) ≡ true → EqualsStream (roll-TokenStream x)
  stream x inner = search (rules, the_lemmas, stream_laws.is, inner)

  tree_step : (x : TokenTree-F TokenTree Group TokenStream) (y : TokenTree-F SureTree SureGroup SureStream) → bare_tree y ≡ x → EqualsTree (roll-TokenTree x)
  tree_step x y is = subst (λ x. EqualsTree (roll-TokenTree x)) is (tree y)

  group_step : (x : Group-F TokenTree Group TokenStream) (y : Group-F SureTree SureGroup SureStream) → bare_group y ≡ x → EqualsGroup (roll-Group x)
  group_step x y is = group x (subst (λ (x : Group-F TokenTree Group TokenStream). EqualsStream x.stream) is y.stream.1)

  stream_step : (x : TokenStream-F TokenTree Group TokenStream) (y : TokenStream-F SureTree SureGroup SureStream) → bare_stream y ≡ x → EqualsStream (roll-TokenStream x)
  stream_step x y is =
      stream x (subst (λ (x : TokenStream-F TokenTree Group TokenStream). pointwise tree_eq.ghosts.eq x.trees (map (tree_at s) x.trees) ≡ true) is (trees y.trees))

  pub eq-tree_at : (t : TokenTree) → EqualsTree t
  eq-tree_at = ind-TokenTree EqualsTree EqualsGroup EqualsStream tree_step group_step stream_step

  pub eq-group_at : (g : Group) → EqualsGroup g
  eq-group_at = ind-Group EqualsTree EqualsGroup EqualsStream tree_step group_step stream_step

  pub eq-stream_at : (z : TokenStream) → EqualsStream z
  eq-stream_at = ind-TokenStream EqualsTree EqualsGroup EqualsStream tree_step group_step stream_step
