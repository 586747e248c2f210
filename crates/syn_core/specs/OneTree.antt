-- That tokens are read in one way alone.
use Rattle.std.specs.Prelude.{◌≡◌, Option, Some}
use Rattle.tok_types.specs.declared.tree.TokenStream.{TokenStream}

-- two trees that a grammar gives a list of tokens are one
abbrev pub HaveOneTree : {A : Type 0} → (TokenStream → Option A) → Type 0
HaveOneTree {A} tree_of = (tokens : TokenStream) (a b : A) → tree_of tokens ≡ Some a → tree_of tokens ≡ Some b → a ≡ b
