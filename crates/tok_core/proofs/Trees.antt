-- A stream is determined by its flat tokens.
use Rattle.std.proofs.Common.{◌≡◌, ℕ, List, [], ◌∷◌, ◌++◌, map, Some, refl, sym, ap, ◌∙◌, subst, append_assoc}
use Rattle.std.proofs.lemmas.List.{append-nil}
use Rattle.tok_types.specs.declared.span.Span.{Span}
use Rattle.tok_types.specs.declared.span.Span.TheVariants.{CallSite, At}
use Rattle.tok_types.specs.declared.tree.Delimiter.{Delimiter}
use Rattle.tok_types.specs.declared.tree.Group.{Group, roll-Group}
use Rattle.tok_types.specs.declared.tree.TokenStream.{TokenStream, roll-TokenStream}
use Rattle.tok_types.specs.declared.tree.TokenTree.{TokenTree, roll-TokenTree}
use Rattle.tok_types.specs.declared.tree.TokenTree.TheFolds.{fold-Group, fold-roll-TokenTree, fold-roll-Group, fold-roll-TokenStream, ind-TokenStream, map-TokenTree}
use Rattle.tok_types.specs.declared.tree.TokenTree.TheOpen.{TokenTree-F, Group-F, TokenStream-F}
use Rattle.tok_types.specs.declared.tree.TokenTree.TheVariants as tree
use Rattle.tok_types.specs.declared.tree.TokenTree.TheVariants.{rolls-Ident, rolls-Lifetime, rolls-Punct, rolls-Literal, rolls-Group}
use Rattle.tok_core.specs.Flat.{Flat, token, ident, lifetime, punct, literal, opening, closing, Place, start_of, end_of, Tree, Trees, leaf, branch, no_trees, more_trees, trees_of, tree_step, group_step, stream_step, tree_view, stream_view, flat_of, flats_of, flat_stream}

-- ---- trees by their flat tokens

same_span : (s t : Span) → start_of s ≡ start_of t → end_of s ≡ end_of t → s ≡ t
same_span CallSite CallSite h k = refl
same_span CallSite (At source start end) h k = absurd (cc)
same_span (At source start end) CallSite h k = absurd (cc)
same_span (At a b c) (At d e f) h k =
    let x : (a ≡ d) × (b ≡ e) = pair_same (a, b) (d, e) h in
    let y : (a ≡ d) × (c ≡ f) = pair_same (a, c) (d, f) k in
    cc (x.0, x.1, y.1)
  where
    some_same : (x y : ℕ × ℕ) → Some x ≡ Some y → x ≡ y
    some_same x y h = cc

    pair_same : (x y : ℕ × ℕ) → Some x ≡ Some y → (x.0 ≡ y.0) × (x.1 ≡ y.1)
    pair_same x y h = let e = some_same x y h in (ap (λ p. p.0) e, ap (λ p. p.1) e)

-- No tree starts here: a list of trees ends.
abbrev IsEnd : List Flat → Type 0
IsEnd [] = Unit {0}
IsEnd (closing d place ∷ fs) = Unit {0}
IsEnd _ = ⊥

no_start : (t : Tree) (fs gs : List Flat) → IsEnd gs → flat_of t ++ fs ≡ gs → ⊥
no_start t fs [] i e = not_nil t e
  where
    not_nil : (t : Tree) → flat_of t ++ fs ≡ [] → ⊥
    not_nil (leaf it) e = cc
    not_nil (branch d ts span) e = cc
no_start t fs (closing d place ∷ gs) i e = not_closing t e
  where
    not_closing : (t : Tree) → flat_of t ++ fs ≡ closing d place ∷ gs → ⊥
    not_closing (leaf it) e = cc
    not_closing (branch d ts span) e = cc
no_start t fs (token it ∷ gs) i e = i
no_start t fs (opening d place ∷ gs) i e = i

mutual
  flat_of-same : (t u : Tree) (fs gs : List Flat) → flat_of t ++ fs ≡ flat_of u ++ gs → (t ≡ u) × (fs ≡ gs)
  flat_of-same (leaf it) (leaf is) fs gs e = (cc, cc)
  flat_of-same (leaf it) (branch d ts span) fs gs e = absurd (cc)
  flat_of-same (branch d ts span) (leaf it) fs gs e = absurd (cc)
  flat_of-same (branch d ts span) (branch b us spun) fs gs e =
      let p = cons_same (opening d (start_of span)) (opening b (start_of spun)) _ _ e in
      let opens = opening_same d b (start_of span) (start_of spun) p.0 in
      let rests : flats_of ts ++ closing d (end_of span) ∷ fs ≡ flats_of us ++ closing b (end_of spun) ∷ gs =
      sym (append_assoc (flats_of ts) (closing d (end_of span) ∷ []) fs) ∙ p.1 ∙ append_assoc (flats_of us) (closing b (end_of spun) ∷ []) gs in
      let inside = flats_of-same ts us (closing d (end_of span) ∷ fs) (closing b (end_of spun) ∷ gs) tt tt rests in
      let q = cons_same (closing d (end_of span)) (closing b (end_of spun)) fs gs inside.1 in
      let closes = closing_same d b (end_of span) (end_of spun) q.0 in
      let spans = same_span span spun opens.1 closes.1 in
      (cc (opens.0, inside.0, spans), q.1)
    where
      cons_same : (x y : Flat) (xs ys : List Flat) → x ∷ xs ≡ y ∷ ys → (x ≡ y) × (xs ≡ ys)
      cons_same x y xs ys e = (cc, cc)

      opening_same : (d b : Delimiter) (p q : Place) → opening d p ≡ opening b q → (d ≡ b) × (p ≡ q)
      opening_same d b p q e = (cc, cc)

      closing_same : (d b : Delimiter) (p q : Place) → closing d p ≡ closing b q → (d ≡ b) × (p ≡ q)
      closing_same d b p q e = (cc, cc)

  flats_of-same : (ts us : Trees) (fs gs : List Flat) → IsEnd fs → IsEnd gs → flats_of ts ++ fs ≡ flats_of us ++ gs → (ts ≡ us) × (fs ≡ gs)
  flats_of-same no_trees no_trees fs gs i j e = (refl, e)
  flats_of-same no_trees (more_trees u us) fs gs i j e =
      absurd (no_start u (flats_of us ++ gs) fs i (sym (append_assoc (flat_of u) (flats_of us) gs) ∙ sym e))
  flats_of-same (more_trees t ts) no_trees fs gs i j e =
      absurd (no_start t (flats_of ts ++ fs) gs j (sym (append_assoc (flat_of t) (flats_of ts) fs) ∙ e))
  flats_of-same (more_trees t ts) (more_trees u us) fs gs i j e =
      let first = flat_of-same t u (flats_of ts ++ fs) (flats_of us ++ gs) (sym (append_assoc (flat_of t) (flats_of ts) fs) ∙ e ∙ append_assoc (flat_of u) (flats_of us) gs) in
      let others = flats_of-same ts us fs gs i j first.1 in
      (cc (first.0, others.0), others.1)

-- ---- streams by their trees

abbrev mutual
  tree_back : Tree → TokenTree
  tree_back (leaf (ident it)) = tree.Ident it
  tree_back (leaf (lifetime it)) = tree.Lifetime it
  tree_back (leaf (punct it)) = tree.Punct it
  tree_back (leaf (literal it)) = tree.Literal it
  tree_back (branch d ts span) = tree.Group (roll-Group (record { delimiter = d; stream = roll-TokenStream (record { trees = trees_back ts }); span = span }))

  trees_back : Trees → List TokenTree
  trees_back no_trees = []
  trees_back (more_trees t ts) = tree_back t ∷ trees_back ts

abbrev stream_back : Trees → TokenStream
stream_back ts = roll-TokenStream (record { trees = trees_back ts })

abbrev group_view : Group → Tree
group_view = fold-Group Tree Tree Trees tree_step group_step stream_step

abbrev IsTreeBack : TokenTree → Type 0
IsTreeBack t = tree_back (tree_view t) ≡ t

abbrev IsGroupBack : Group → Type 0
IsGroupBack g = tree_back (group_view g) ≡ tree.Group g

abbrev IsStreamBack : TokenStream → Type 0
IsStreamBack s = stream_back (stream_view s) ≡ s

abbrev SureTree : Type 0
SureTree = (t : TokenTree) × IsTreeBack t

abbrev SureGroup : Type 0
SureGroup = (g : Group) × IsGroupBack g

abbrev SureStream : Type 0
SureStream = (s : TokenStream) × IsStreamBack s

abbrev erased_tree : TokenTree-F SureTree SureGroup SureStream → TokenTree-F TokenTree Group TokenStream
erased_tree = map-TokenTree SureTree SureGroup SureStream TokenTree Group TokenStream (λ e. e.0) (λ e. e.0) (λ e. e.0)

abbrev seen_tree : TokenTree-F TokenTree Group TokenStream → TokenTree-F Tree Tree Trees
seen_tree = map-TokenTree TokenTree Group TokenStream Tree Tree Trees tree_view group_view stream_view

tree_step-back : (y : TokenTree-F SureTree SureGroup SureStream) → tree_back (tree_step (seen_tree (erased_tree y))) ≡ roll-TokenTree (erased_tree y)
tree_step-back (TokenTree-F.Ident it) = sym (rolls-Ident it)
tree_step-back (TokenTree-F.Lifetime it) = sym (rolls-Lifetime it)
tree_step-back (TokenTree-F.Punct it) = sym (rolls-Punct it)
tree_step-back (TokenTree-F.Literal it) = sym (rolls-Literal it)
tree_step-back (TokenTree-F.Group sure) = sure.1 ∙ sym (rolls-Group sure.0)

trees_back-view : (sures : List SureTree) → trees_back (trees_of (map tree_view (map (λ e. e.0) sures))) ≡ map (λ e. e.0) sures
trees_back-view [] = refl
trees_back-view (sure ∷ sures) = cc (sure.1, trees_back-view sures)

stream_back-view : (s : TokenStream) → IsStreamBack s
stream_back-view = ind-TokenStream IsTreeBack IsGroupBack IsStreamBack
    (λ x y is. subst (λ x. IsTreeBack (roll-TokenTree x)) is
    (ap tree_back (fold-roll-TokenTree Tree Tree Trees tree_step group_step stream_step (erased_tree y)) ∙ tree_step-back y))
    (λ x y is.
    let inner = subst (λ (x : Group-F TokenTree Group TokenStream). IsStreamBack x.stream) is y.stream.1 in
    ap tree_back (fold-roll-Group Tree Tree Trees tree_step group_step stream_step x)
    ∙ ap (λ (s : TokenStream). tree.Group (roll-Group (record { delimiter = x.delimiter; stream = s; span = x.span }))) inner)
    (λ x y is.
    let inner = subst (λ (x : TokenStream-F TokenTree Group TokenStream). trees_back (trees_of (map tree_view x.trees)) ≡ x.trees) is (trees_back-view y.trees) in
    ap stream_back (fold-roll-TokenStream Tree Tree Trees tree_step group_step stream_step x)
    ∙ ap (λ (ts : List TokenTree). roll-TokenStream (record { trees = ts })) inner)

pub stream_view-same : (a b : TokenStream) → stream_view a ≡ stream_view b → a ≡ b
stream_view-same a b e = sym (stream_back-view a) ∙ ap stream_back e ∙ stream_back-view b

pub flat_stream-same : (a b : TokenStream) → flat_stream a ≡ flat_stream b → a ≡ b
flat_stream-same a b e =
    stream_view-same a b (flats_of-same (stream_view a) (stream_view b) [] [] tt tt (append-nil (flat_stream a) ∙ e ∙ sym (append-nil (flat_stream b)))).0
