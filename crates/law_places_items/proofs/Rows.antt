-- The items of a row stand where their tokens do, and so do those in a group.
use Rattle.std.proofs.Common.{◌≡◌, ℕ, zero, suc, Bool, true, false, if◌then◌else◌, List, [], ◌∷◌, ◌++◌, length, Some, ap, sym, subst, ◌∙◌, append_assoc, append-nil}
use Rattle.std.proofs.lemmas.Option.{some_pair_parts}
use Rattle.tok_types.specs.declared.span.Span.{Span}
use Rattle.tok_types.specs.declared.tree.Delimiter.{Delimiter}
use Rattle.tok_types.specs.declared.tree.TokenTree.{TokenTree}
use Rattle.syn_grammar.specs.Input.{Input, Parser, ◌>>=◌, pure, refuse, test, inside, is_end, first_span, start_of}
use Rattle.syn_grammar.specs.Paths.{list}
use Rattle.syn_grammar.specs.Token.{contents_of}
use Rattle.syn_grammar.specs.Trees.{all}
use Rattle.syn_items.specs.Lists.{while_from, each_while}
use Rattle.law_prefix.proofs.Steps.{bind-at}
use Rattle.law_places.specs.Stands.{Stands, ListStands}
use Rattle.law_places.proofs.Commas.{all_listed-stand}
use Rattle.law_places.proofs.Steps.{in-group}
use Rattle.law_places.proofs.Wholes.{all-parts}
use Rattle.law_places_items.specs.Rows.{RowStands, no_item, one_item, HoldsList}

-- the items that were read behind others
record Behind {A : Type 0} (span_of : A → Span) (trees : List TokenTree) (found all : List A) : Type 0 where
  items : List A
  is : all ≡ found ++ items
  stand : RowStands span_of trees items

module _ {A : Type 0} (span_of : A → Span) (begins : List TokenTree → Bool) (item : Parser A) (h : Stands span_of item) where
  -- nothing more, where nothing is left
  nothing : (input after : Input) (found all : List A) → pure found input ≡ Some (all, after) → after.rest ≡ [] → Behind span_of input.rest found all
  nothing input after found all e end =
      let both = some_pair_parts found all input after e in
      let none : input.rest ≡ [] = ap (λ (input : Input). input.rest) both.1 ∙ end in
      record { items = []; is = sym both.0 ∙ sym (append-nil found); stand = subst (λ (trees : List TokenTree). RowStands span_of trees []) (sym none) no_item }

  -- what stands there, or nothing more
  either : (one other : Parser (List A)) (input after : Input) (found all : List A) → (one input ≡ Some (all, after) → Behind span_of input.rest found all) → (other input ≡ Some (all, after) → Behind span_of input.rest found all) → (b : Bool)
      → (if b then one else other) input ≡ Some (all, after) → Behind span_of input.rest found all
  either one other input after found all go next true e = go e
  either one other input after found all go next false e = next e

  row : (turns : ℕ) (input after : Input) (found all : List A) → while_from begins item turns found input ≡ Some (all, after) → after.rest ≡ [] → Behind span_of input.rest found all
  unfolding while_from
  row zero input after found all e end = either (pure found) refuse input after found all (λ e. nothing input after found all e end) (λ e. absurd cc) (is_end input.rest) e
  row (suc turns) input after found all e end =
      either (item >>= (λ value. while_from begins item turns (found ++ value ∷ []))) (pure found) input after found all (λ e.
      let parts = bind-at (item input) (λ value. while_from begins item turns (found ++ value ∷ [])) all after e in
      let read = h.of input parts.1 parts.0 parts.2 in
      let later = row turns parts.1 after (found ++ parts.0 ∷ []) all parts.3 end in
      record {
        items = parts.0 ∷ later.items;
        is = later.is ∙ append_assoc found (parts.0 ∷ []) later.items;
        stand = subst (λ (trees : List TokenTree). RowStands span_of trees (parts.0 ∷ later.items)) (sym read.is) (one_item read.read parts.1.rest parts.0 later.items read.there later.stand);
      }) (λ e. nothing input after found all e end) (begins input.rest) e

  -- a row that all of the tokens are
  pub all_in_row-stand : (trees : List TokenTree) (found : List A) → all (each_while begins item (start_of trees)) ≡ Some found → RowStands span_of trees found
  all_in_row-stand trees found e =
      let source = all-parts (each_while begins item (start_of trees)) found e in
      let behind = row (length trees) (start_of trees) source.0 [] found source.1 source.2 in
      subst (λ (items : List A). RowStands span_of trees items) (sym behind.is) behind.stand

-- a list in a group
pub held-list : {A B : Type 0} {span_of : B → Span} {items_in : A → List B} {item : Parser B} (delimiter : Delimiter) (make : Span → List B → A) → ((span : Span) (found : List B) → items_in (make span found) ≡ found) → Stands span_of item
    → HoldsList items_in span_of (test first_span >>= (λ span. inside delimiter (list item) >>= (λ found. pure (make span found))))
held-list {A} {B} {span_of} {items_in} {item} delimiter make keeps h = record {
  of = λ input after found e.
      let parts = bind-at (inside delimiter (list item) input) (λ found. pure (make (first_span input.rest) found)) found after e in
      let group = ((in-group delimiter (list item) input).of parts.1 parts.0 parts.2).1 in
      let made = some_pair_parts (make (first_span input.rest) parts.0) found parts.1 after parts.3 in
      let same : parts.0 ≡ items_in found = sym (keeps (first_span input.rest) parts.0) ∙ ap items_in made.0 in
      subst (λ (items : List B). ListStands span_of (contents_of input.rest) items) same (all_listed-stand h (contents_of input.rest) group.inner parts.0 group.is group.ended);
}
