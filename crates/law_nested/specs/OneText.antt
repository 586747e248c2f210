-- Tokens that stand in one text.
use Rattle.std.specs.Prelude.{◌≡◌, ℕ, List, [], ◌∷◌}
use Rattle.tok_types.specs.declared.span.Span.{Span}
use Rattle.tok_types.specs.declared.span.Span.TheVariants.{CallSite, At}
use Rattle.tok_types.specs.declared.tree.TokenTree.{TokenTree}
use Rattle.node_span.specs.Spanned.{tree_span}

-- the place is in the text with that number
abbrev pub IsIn : ℕ → Span → Type 0
IsIn text (At source start end) = source ≡ text
IsIn text CallSite = ⊥

-- each of the tokens is
abbrev pub AllIn : ℕ → List TokenTree → Type 0
AllIn text [] = Unit {0}
AllIn text (tree ∷ trees) = IsIn text (tree_span tree) × AllIn text trees
