-- Rows of items that stand where their tokens do, alone or in a group.
use Rattle.std.specs.Prelude.{◌≡◌, List, [], ◌∷◌, ◌++◌, Some}
use Rattle.tok_types.specs.declared.span.Span.{Span}
use Rattle.tok_types.specs.declared.tree.TokenTree.{TokenTree}
use Rattle.node_core.specs.declared.data.«Data».{«Data»}
use Rattle.node_core.specs.declared.data.«Data».TheVariants as body
use Rattle.node_core.specs.declared.data.Variant.{Variant}
use Rattle.syn_grammar.specs.Input.{Input, Parser}
use Rattle.syn_grammar.specs.Token.{contents_of}
use Rattle.law_places.specs.Stands.{ListStands, StandsAt}

-- The tokens are those of the items of a row without marks, each of which stands where its own do.
pub data RowStands {A : Type 0} (span_of : A → Span) : List TokenTree → List A → Type 0 where
  no_item : RowStands span_of [] []
  one_item : (read rest : List TokenTree) (it : A) (its : List A) → StandsAt span_of read it → RowStands span_of rest its → RowStands span_of (read ++ rest) (it ∷ its)

-- what is read from a group holds items that stand where their tokens in the group do, with commas between them
pub record HoldsList {A B : Type 0} (items_in : A → List B) (span_of : B → Span) (parser : Parser A) : Type 0 where
  pub of : (input after : Input) (found : A) → parser input ≡ Some (found, after) → ListStands span_of (contents_of input.rest) (items_in found)

-- the variants of an enum
abbrev pub variants_in : «Data» → List Variant
variants_in (body.Enum it) = it.variants
variants_in _ = []
