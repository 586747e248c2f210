-- That a parser does not see where its tokens stand.
use Rattle.std.specs.Prelude.{◌≡◌, map, Some, None}
use Rattle.tok_types.specs.declared.span.Span.TheVariants.{CallSite}
use Rattle.syn_grammar.specs.Input.{Input, Outcome, Parser}
use Rattle.law_spans.specs.Erased.{erased_tree}

-- the same tokens, and all places at the call site
abbrev pub erased_input : Input → Input
erased_input input = record { rest = map erased_tree input.rest; last = CallSite }

-- the outcome without places, where a function takes those out of what is found
abbrev pub erased_outcome : {A B : Type 0} → (A → B) → Outcome A → Outcome B
erased_outcome bare (Some found) = Some (bare found.0, erased_input found.1)
erased_outcome bare None = None

-- From bare tokens the other parser reads what the first reads, made bare; and none where the first reads none.
pub record IgnoresSpans {A B : Type 0} (bare : A → B) (parser : Parser A) (other : Parser B) : Type 0 where
  pub at : (input : Input) → other (erased_input input) ≡ erased_outcome bare (parser input)
