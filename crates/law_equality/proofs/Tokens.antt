-- Groups, trees and streams of tokens are equal exactly where they are the same without their places.
use Rattle.std.proofs.Common.{◌≡◌, ℕ, map, refl, sym, ap, ◌∙◌, subst}
use Rattle.std.specs.Bool.{Decides}
use Rattle.tok_types.specs.contracts.tree.GroupPartialEq.TheImpl as group_eq
use Rattle.tok_types.specs.contracts.tree.GroupPartialEq.TheImpl.Laws as group_laws
use Rattle.tok_types.specs.contracts.tree.TokenStreamPartialEq.TheImpl as stream_eq
use Rattle.tok_types.specs.contracts.tree.TokenStreamPartialEq.TheImpl.Laws as stream_laws
use Rattle.tok_types.specs.contracts.tree.TokenTreePartialEq.TheImpl as tree_eq
use Rattle.tok_types.specs.contracts.tree.TokenTreePartialEq.TheImpl.Laws as tree_laws
use Rattle.tok_types.specs.declared.span.Span.TheVariants.{CallSite}
use Rattle.tok_types.specs.declared.tree.Group.{Group, roll-Group}
use Rattle.tok_types.specs.declared.tree.TokenStream.{TokenStream, roll-TokenStream}
use Rattle.tok_types.specs.declared.tree.TokenTree.{TokenTree, roll-TokenTree, out-TokenTree, roll-out-TokenTree, out-roll-TokenTree, the_lemmas}
use Rattle.tok_types.specs.declared.tree.TokenTree.TheFolds.{ind-Group, ind-TokenStream, ind-TokenTree, map-Group, map-TokenStream, map-TokenTree}
use Rattle.tok_types.specs.declared.tree.TokenTree.TheOpen.{TokenTree-F, Group-F, TokenStream-F}
use Rattle.law_spans.specs.Erased.{erased_ident, erased_lifetime, erased_literal, erased_stream, erased_tree}
use Rattle.law_equality.specs.Erased.{erased_group, erased_punct}
use Rattle.law_equality.proofs.Deciding.{Sure, Told, both, clash, layered, lists, neither, told}
use Rattle.law_equality.proofs.Leaves.{delimiter_told, ident_told, lifetime_told, literal_told, punct_told}

abbrev TreeLayer : Type 0
TreeLayer = TokenTree-F TokenTree Group TokenStream

abbrev GroupLayer : Type 0
GroupLayer = Group-F TokenTree Group TokenStream

abbrev StreamLayer : Type 0
StreamLayer = TokenStream-F TokenTree Group TokenStream

abbrev SureTree : Type 0
SureTree = Sure tree_eq.ghosts.eq erased_tree

abbrev SureGroup : Type 0
SureGroup = Sure group_eq.ghosts.eq erased_group

abbrev SureStream : Type 0
SureStream = Sure stream_eq.ghosts.eq erased_stream

-- without what is sure
abbrev forget_tree : TokenTree-F SureTree SureGroup SureStream → TreeLayer
forget_tree = map-TokenTree SureTree SureGroup SureStream TokenTree Group TokenStream (λ e. e.0) (λ e. e.0) (λ e. e.0)

abbrev forget_group : Group-F SureTree SureGroup SureStream → GroupLayer
forget_group = map-Group SureTree SureGroup SureStream TokenTree Group TokenStream (λ e. e.0) (λ e. e.0) (λ e. e.0)

abbrev forget_stream : TokenStream-F SureTree SureGroup SureStream → StreamLayer
forget_stream = map-TokenStream SureTree SureGroup SureStream TokenTree Group TokenStream (λ e. e.0) (λ e. e.0) (λ e. e.0)

-- ---- trees

-- the layer without its places
abbrev bare : TreeLayer → TreeLayer
bare (TokenTree-F.Ident it) = TokenTree-F.Ident (erased_ident it)
bare (TokenTree-F.Lifetime it) = TokenTree-F.Lifetime (erased_lifetime it)
bare (TokenTree-F.Punct it) = TokenTree-F.Punct (erased_punct it)
bare (TokenTree-F.Literal it) = TokenTree-F.Literal (erased_literal it)
bare (TokenTree-F.Group it) = TokenTree-F.Group (erased_group it)

bare_is : (x : TreeLayer) → erased_tree (roll-TokenTree x) ≡ roll-TokenTree (bare x)
bare_is (TokenTree-F.Ident it) = search the_lemmas
bare_is (TokenTree-F.Lifetime it) = search the_lemmas
bare_is (TokenTree-F.Punct it) = search the_lemmas
bare_is (TokenTree-F.Literal it) = search the_lemmas
bare_is (TokenTree-F.Group it) = search the_lemmas

-- the number of the variant
abbrev tag : TreeLayer → ℕ
tag (TokenTree-F.Ident _) = 0
tag (TokenTree-F.Lifetime _) = 1
tag (TokenTree-F.Punct _) = 2
tag (TokenTree-F.Literal _) = 3
tag (TokenTree-F.Group _) = 4

pair : (y : TokenTree-F SureTree SureGroup SureStream) (z : TreeLayer) (a b : TokenTree) → out-TokenTree a ≡ forget_tree y → out-TokenTree b ≡ z
    → Decides (tree_eq.ghosts.eq a b) (bare (forget_tree y) ≡ bare z)
pair (TokenTree-F.Ident x) (TokenTree-F.Ident z) a b ha hb = told (rw (ha, hb) at (tree_laws.is a b)) (ident_told x z) (λ p. λ i. TokenTree-F.Ident (p i)) (λ e. cc)
pair (TokenTree-F.Lifetime x) (TokenTree-F.Lifetime z) a b ha hb = told (rw (ha, hb) at (tree_laws.is a b)) (lifetime_told x z) (λ p. λ i. TokenTree-F.Lifetime (p i)) (λ e. cc)
pair (TokenTree-F.Punct x) (TokenTree-F.Punct z) a b ha hb = told (rw (ha, hb) at (tree_laws.is a b)) (punct_told x z) (λ p. λ i. TokenTree-F.Punct (p i)) (λ e. cc)
pair (TokenTree-F.Literal x) (TokenTree-F.Literal z) a b ha hb = told (rw (ha, hb) at (tree_laws.is a b)) (literal_told x z) (λ p. λ i. TokenTree-F.Literal (p i)) (λ e. cc)
pair (TokenTree-F.Group x) (TokenTree-F.Group z) a b ha hb = told (rw (ha, hb) at (tree_laws.is a b)) (x.1 z) (λ p. λ i. TokenTree-F.Group (p i)) (λ e. cc)
pair y z a b ha hb = neither (rw (ha, hb) at (tree_laws.is a b)) (λ e. clash (ap tag e) refl)

tree_at : (y : TokenTree-F SureTree SureGroup SureStream) → Told tree_eq.ghosts.eq erased_tree (roll-TokenTree (forget_tree y))
tree_at y = layered roll-TokenTree out-TokenTree roll-out-TokenTree out-roll-TokenTree tree_eq.ghosts.eq erased_tree bare bare_is (forget_tree y) (pair y)

-- ---- groups and streams

bare_stream : (a : TokenStream) → erased_stream a ≡ record { trees = map erased_tree a.trees }
bare_stream a = search the_lemmas

bare_group : (a : Group) → erased_group a ≡ record { delimiter = a.delimiter; stream = erased_stream a.stream; span = CallSite }
bare_group a = search the_lemmas

stream_at : (y : TokenStream-F SureTree SureGroup SureStream) → Told stream_eq.ghosts.eq erased_stream (roll-TokenStream (forget_stream y))
stream_at y b =
    let a : TokenStream = roll-TokenStream (forget_stream y) in
    told (stream_laws.is a b) (lists tree_eq.ghosts.eq erased_tree y.trees b.trees)
    (λ p. bare_stream a ∙ (λ i. record { trees = p i }) ∙ sym (bare_stream b))
    (λ e. ap (λ (it : TokenStream). it.trees) (sym (bare_stream a) ∙ e ∙ bare_stream b))

group_at : (y : Group-F SureTree SureGroup SureStream) → Told group_eq.ghosts.eq erased_group (roll-Group (forget_group y))
group_at y b =
    let a : Group = roll-Group (forget_group y) in
    told (group_laws.is a b) (both (delimiter_told y.delimiter b.delimiter) (y.stream.1 b.stream))
    (λ p. bare_group a ∙ (λ i. record { delimiter = p.0 i; stream = p.1 i; span = CallSite }) ∙ sym (bare_group b))
    (λ e. let f = sym (bare_group a) ∙ e ∙ bare_group b in (ap (λ (it : Group). it.delimiter) f, ap (λ (it : Group). it.stream) f))

-- ---- all of them

tree_step : (x : TreeLayer) (y : TokenTree-F SureTree SureGroup SureStream) → forget_tree y ≡ x → Told tree_eq.ghosts.eq erased_tree (roll-TokenTree x)
tree_step x y is = subst (λ x. Told tree_eq.ghosts.eq erased_tree (roll-TokenTree x)) is (tree_at y)

group_step : (x : GroupLayer) (y : Group-F SureTree SureGroup SureStream) → forget_group y ≡ x → Told group_eq.ghosts.eq erased_group (roll-Group x)
group_step x y is = subst (λ x. Told group_eq.ghosts.eq erased_group (roll-Group x)) is (group_at y)

stream_step : (x : StreamLayer) (y : TokenStream-F SureTree SureGroup SureStream) → forget_stream y ≡ x → Told stream_eq.ghosts.eq erased_stream (roll-TokenStream x)
stream_step x y is = subst (λ x. Told stream_eq.ghosts.eq erased_stream (roll-TokenStream x)) is (stream_at y)

pub tree_told : (a : TokenTree) → Told tree_eq.ghosts.eq erased_tree a
tree_told = ind-TokenTree (Told tree_eq.ghosts.eq erased_tree) (Told group_eq.ghosts.eq erased_group) (Told stream_eq.ghosts.eq erased_stream) tree_step group_step stream_step

pub group_told : (a : Group) → Told group_eq.ghosts.eq erased_group a
group_told = ind-Group (Told tree_eq.ghosts.eq erased_tree) (Told group_eq.ghosts.eq erased_group) (Told stream_eq.ghosts.eq erased_stream) tree_step group_step stream_step

pub stream_told : (a : TokenStream) → Told stream_eq.ghosts.eq erased_stream a
stream_told = ind-TokenStream (Told tree_eq.ghosts.eq erased_tree) (Told group_eq.ghosts.eq erased_group) (Told stream_eq.ghosts.eq erased_stream) tree_step group_step stream_step
