-- That a node stands where the tokens stand that it was read from.
use Rattle.std.specs.Prelude.{◌≡◌, ◌⊎◌, ◌<◌, true, List, [], ◌∷◌, ◌++◌, length, map, Some}
use Rattle.tok_types.specs.declared.span.Span.{Span}
use Rattle.tok_types.specs.declared.span.Span.TheVariants.{CallSite}
use Rattle.tok_types.specs.declared.tree.TokenTree.{TokenTree}
use Rattle.node_span.specs.Spanned.{last_of, list_span, tree_span}
use Rattle.syn_grammar.specs.Input.{Input, Parser}
use Rattle.syn_grammar.specs.Token.{is_comma}

-- Where the value stands there are these tokens, one at least: it stands from the start of the first to the end of the last.
pub record StandsAt {A : Type 0} (span_of : A → Span) (read : List TokenTree) (it : A) : Type 0 where
  pub some : 0 < length read
  pub stands : span_of it ≡ list_span tree_span read

-- The tokens that were read between two inputs, where the value stands. The place that the input behind them keeps is that of the last of them.
pub record ReadThere {A : Type 0} (span_of : A → Span) (input after : Input) (found : A) : Type 0 where
  pub read : List TokenTree
  pub is : input.rest ≡ read ++ after.rest
  pub last : after.last ≡ last_of input.last (map tree_span read)
  pub there : StandsAt span_of read found

-- whatever the parser reads stands where its tokens do
pub record Stands {A : Type 0} (span_of : A → Span) (parser : Parser A) : Type 0 where
  pub of : (input after : Input) (found : A) → parser input ≡ Some (found, after) → ReadThere span_of input after found

-- the same of what may be left out: where the parser takes no token, what it gives stands nowhere
pub record StandsOrNowhere {A : Type 0} (span_of : A → Span) (parser : Parser A) : Type 0 where
  pub of : (input after : Input) (found : A) → parser input ≡ Some (found, after) → ReadThere span_of input after found ⊎ ((after ≡ input) × (span_of found ≡ CallSite))

-- The tokens are those of the items of a list, with a comma between two and at most one behind the last. Of each item and its own tokens that is said.
pub data ListOf {A : Type 0} (Says : List TokenTree → A → Type 0) : List TokenTree → List A → Type 0 where
  no_items : ListOf Says [] []
  last_item : (read : List TokenTree) (it : A) → Says read it → ListOf Says read (it ∷ [])
  more_items : (read : List TokenTree) (comma : TokenTree) (rest : List TokenTree) (it : A) (its : List A) → Says read it → is_comma (comma ∷ rest) ≡ true → ListOf Says rest its → ListOf Says (read ++ comma ∷ rest) (it ∷ its)

-- each item stands where its own tokens do
abbrev pub ListStands : {A : Type 0} → (A → Span) → List TokenTree → List A → Type 0
ListStands span_of = ListOf (StandsAt span_of)
