-- Where a list of tokens ends.
use Rattle.std.proofs.Common.{◌≡◌, ◌-◌, suc, List, [], ◌∷◌, length, map, Some, None, slice_get, refl, arith}
use Rattle.tok_types.specs.declared.span.Span.{Span}
use Rattle.tok_types.specs.declared.tree.TokenTree.{TokenTree}
use Rattle.node_span.specs.Spanned.{last_of, tree_span}

-- the end of tokens behind a place is that of the last one
pub last_of-at : (own : Span) (trees : List TokenTree) (last : TokenTree) → slice_get trees (length trees - 1) ≡ Some last → last_of own (map tree_span trees) ≡ tree_span last
last_of-at own [] last e = absurd cc
last_of-at own (tree ∷ []) last e = cc
last_of-at own (one ∷ two ∷ trees) last e =
    let before : length (one ∷ two ∷ trees) - 1 ≡ suc (length (two ∷ trees) - 1) = omega arith in
    last_of-at (tree_span one) (two ∷ trees) last (rw before at e)

-- and where there is none, the place
pub last_of-none : (own : Span) (trees : List TokenTree) → slice_get trees (length trees - 1) ≡ None → last_of own (map tree_span trees) ≡ own
last_of-none own [] e = refl
last_of-none own (tree ∷ trees) e =
    let before : length (tree ∷ trees) - 1 ≡ length trees = omega arith in
    absurd (there tree trees (rw before at e))
  where
    there : (tree : TokenTree) (trees : List TokenTree) → slice_get (tree ∷ trees) (length trees) ≡ None → ⊥
    there tree [] e = cc
    there tree (next ∷ trees) e = there next trees e
