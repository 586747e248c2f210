-- The flat tokens of a stream whose spans are changed.
use Rattle.std.proofs.Common.{◌≡◌, List, [], ◌∷◌, ◌++◌, map, refl, sym, ap, ◌∙◌, subst, rules}
use Rattle.std.proofs.lemmas.List.{map-append}
use Rattle.tok_types.specs.declared.span.Span.{Span}
use Rattle.tok_types.specs.declared.span.Span.TheVariants.{CallSite}
use Rattle.tok_types.specs.declared.tree.Group.{Group, roll-Group}
use Rattle.tok_types.specs.declared.tree.TokenStream.{TokenStream, roll-TokenStream}
use Rattle.tok_types.specs.declared.tree.TokenTree.{TokenTree, roll-TokenTree, the_lemmas}
use Rattle.tok_types.specs.declared.tree.TokenTree.TheFolds.{fold-Group, ind-TokenStream, map-TokenTree}
use Rattle.tok_types.specs.declared.tree.TokenTree.TheOpen.{TokenTree-F, Group-F, TokenStream-F}
use Rattle.tok_core.specs.Erased.{SameButSpans, token_at, flat_at}
use Rattle.tok_core.specs.Flat.{opening, closing, start_of, end_of, Tree, Trees, leaf, branch, no_trees, more_trees, trees_of, tree_step, group_step, stream_step, tree_view, stream_view, flat_of, flats_of, flat_stream}
use Rattle.tok_types.specs.Respan.{group_at, tree_at, stream_at}
use Rattle.tok_core.proofs.Trees.{flat_stream-same}

-- the tree with this span everywhere, and trees
abbrev mutual
  view_at : Span → Tree → Tree
  view_at s (leaf it) = leaf (token_at s it)
  view_at s (branch d ts span) = branch d (views_at s ts) s

  views_at : Span → Trees → Trees
  views_at s no_trees = no_trees
  views_at s (more_trees t ts) = more_trees (view_at s t) (views_at s ts)

mutual
  flat_of-view_at : (s : Span) (t : Tree) → flat_of (view_at s t) ≡ map (flat_at s) (flat_of t)
  flat_of-view_at s (leaf it) = refl
  flat_of-view_at s (branch d ts span) =
      ap (λ fs. opening d (start_of s) ∷ fs)
      (ap (λ fs. fs ++ closing d (end_of s) ∷ []) (flats_of-views_at s ts) ∙ sym (map-append (flat_at s) (flats_of ts) (closing d (end_of span) ∷ [])))

  flats_of-views_at : (s : Span) (ts : Trees) → flats_of (views_at s ts) ≡ map (flat_at s) (flats_of ts)
  flats_of-views_at s no_trees = refl
  flats_of-views_at s (more_trees t ts) =
      ap (λ fs. fs ++ flats_of (views_at s ts)) (flat_of-view_at s t)
      ∙ ap (λ fs. map (flat_at s) (flat_of t) ++ fs) (flats_of-views_at s ts)
      ∙ sym (map-append (flat_at s) (flat_of t) (flats_of ts))

-- ---- the same of the program's trees

abbrev group_view : Group → Tree
group_view = fold-Group Tree Tree Trees tree_step group_step stream_step

module _ (s : Span) where
  abbrev IsTreeAt : TokenTree → Type 0
  IsTreeAt t = tree_view (tree_at s t) ≡ view_at s (tree_view t)

  abbrev IsGroupAt : Group → Type 0
  IsGroupAt g = group_view (group_at s g) ≡ view_at s (group_view g)

  abbrev IsStreamAt : TokenStream → Type 0
  IsStreamAt a = stream_view (stream_at s a) ≡ views_at s (stream_view a)

  abbrev SureTree : Type 0
  SureTree = (t : TokenTree) × IsTreeAt t

  abbrev SureGroup : Type 0
  SureGroup = (g : Group) × IsGroupAt g

  abbrev SureStream : Type 0
  SureStream = (a : TokenStream) × IsStreamAt a

  abbrev erased_tree : TokenTree-F SureTree SureGroup SureStream → TokenTree-F TokenTree Group TokenStream
  erased_tree = map-TokenTree SureTree SureGroup SureStream TokenTree Group TokenStream (λ e. e.0) (λ e. e.0) (λ e. e.0)

  tree_step-at : (y : TokenTree-F SureTree SureGroup SureStream) → IsTreeAt (roll-TokenTree (erased_tree y))
  tree_step-at (TokenTree-F.Ident it) = search (rules, the_lemmas)
  tree_step-at (TokenTree-F.Lifetime it) = search (rules, the_lemmas)
  tree_step-at (TokenTree-F.Punct it) = search (rules, the_lemmas)
  tree_step-at (TokenTree-F.Literal it) = search (rules, the_lemmas)
  tree_step-at (TokenTree-F.Group sure) =
      let inside : tree_view (tree_at s (roll-TokenTree (TokenTree-F.Group sure.0))) ≡ group_view (group_at s sure.0) = search (rules, the_lemmas) in
      let outside : tree_view (roll-TokenTree (TokenTree-F.Group sure.0)) ≡ group_view sure.0 = search (rules, the_lemmas) in
      inside ∙ sure.1 ∙ ap (view_at s) (sym outside)

  group_step-at : (x : Group-F TokenTree Group TokenStream) → IsStreamAt x.stream → IsGroupAt (roll-Group x)
  group_step-at x is =
      let inside : group_view (group_at s (roll-Group x)) ≡ branch x.delimiter (stream_view (stream_at s x.stream)) s = search (rules, the_lemmas) in
      let outside : group_view (roll-Group x) ≡ branch x.delimiter (stream_view x.stream) x.span = search (rules, the_lemmas) in
      inside ∙ ap (λ ts. branch x.delimiter ts s) is ∙ ap (view_at s) (sym outside)

  stream_step-at : (x : TokenStream-F TokenTree Group TokenStream)
      → trees_of (map tree_view (map (tree_at s) x.trees)) ≡ views_at s (trees_of (map tree_view x.trees)) → IsStreamAt (roll-TokenStream x)
  stream_step-at x is =
      let inside : stream_view (stream_at s (roll-TokenStream x)) ≡ trees_of (map tree_view (map (tree_at s) x.trees)) = search (rules, the_lemmas) in
      let outside : stream_view (roll-TokenStream x) ≡ trees_of (map tree_view x.trees) = search (rules, the_lemmas) in
      inside ∙ is ∙ ap (views_at s) (sym outside)

  trees_at-view : (sures : List SureTree)
      → trees_of (map tree_view (map (tree_at s) (map (λ e. e.0) sures))) ≡ views_at s (trees_of (map tree_view (map (λ e. e.0) sures)))
  trees_at-view [] = refl
  trees_at-view (sure ∷ sures) = cc (sure.1, trees_at-view sures)

  stream_view-stream_at : (a : TokenStream) → IsStreamAt a
  stream_view-stream_at = ind-TokenStream IsTreeAt IsGroupAt IsStreamAt
      (λ x y is. subst (λ x. IsTreeAt (roll-TokenTree x)) is (tree_step-at y))
      (λ x y is. group_step-at x (subst (λ (x : Group-F TokenTree Group TokenStream). IsStreamAt x.stream) is y.stream.1))
      (λ x y is. stream_step-at x (subst
      (λ (x : TokenStream-F TokenTree Group TokenStream). trees_of (map tree_view (map (tree_at s) x.trees)) ≡ views_at s (trees_of (map tree_view x.trees)))
      is (trees_at-view y.trees)))

pub flat_stream-stream_at : (s : Span) (a : TokenStream) → flat_stream (stream_at s a) ≡ map (flat_at s) (flat_stream a)
flat_stream-stream_at s a = ap flats_of (stream_view-stream_at s a) ∙ flats_of-views_at s (stream_view a)

-- streams with the same flat tokens, all but their spans
pub same_but_spans : (a b : TokenStream) → map (flat_at CallSite) (flat_stream a) ≡ map (flat_at CallSite) (flat_stream b) → SameButSpans a b
same_but_spans a b e =
    flat_stream-same (stream_at CallSite a) (stream_at CallSite b)
    (flat_stream-stream_at CallSite a ∙ e ∙ sym (flat_stream-stream_at CallSite b))
