-- The items of a list with commas stand where their tokens do.
use Rattle.std.proofs.Common.{◌≡◌, ℕ, zero, suc, Bool, true, false, if◌then◌else◌, List, [], ◌∷◌, ◌++◌, length, Some, refl, ap, sym, subst, ◌∙◌, append_assoc, append-nil}
use Rattle.std.proofs.lemmas.Bool.{both_ways}
use Rattle.std.proofs.lemmas.Option.{some_pair_parts}
use Rattle.tok_types.specs.declared.ident.Ident.{Ident}
use Rattle.tok_types.specs.declared.span.Span.{Span}
use Rattle.tok_types.specs.declared.tree.TokenStream.{TokenStream, out-TokenStream}
use Rattle.tok_types.specs.declared.tree.TokenTree.{TokenTree}
use Rattle.node_expr.specs.declared.expr.Expr.{Expr}
use Rattle.node_expr.specs.declared.path.Path.{Path}
use Rattle.node_expr.specs.declared.ty.FnArg.{FnArg}
use Rattle.node_span.specs.Spanned.{expr_span, path_span}
use Rattle.syn_grammar.specs.Grammar.{max_depth}
use Rattle.syn_grammar.specs.Input.{Input, Parser, ◌>>=◌, pure, refuse, eat, after_eat, skipped, next, is_end, items_from, start_of}
use Rattle.syn_grammar.specs.Paths.{list}
use Rattle.syn_grammar.specs.Readers.{any_level}
use Rattle.syn_grammar.specs.Token.{is_comma, mark_of}
use Rattle.syn_grammar.specs.Trees.{whole, exprs_of, idents_of, paths_of, fn_args_of}
use Rattle.law_prefix.proofs.Steps.{bind-at}
use Rattle.law_places.specs.Stands.{Stands, StandsAt, ListOf, ListStands, no_items, last_item, more_items}
use Rattle.law_places.proofs.Fronts.{expr-stands, fn_arg-stands, name-stands, path-stands}
use Rattle.law_places.proofs.Steps.{end-is}
use Rattle.law_places.proofs.Wholes.{all-parts}

-- what was read from some tokens, of which that is said
pub record ReadAs {A : Type 0} (says : List TokenTree → A → Type 0) (input after : Input) (found : A) : Type 0 where
  pub read : List TokenTree
  pub is : input.rest ≡ read ++ after.rest
  pub there : says read found

-- the same of whatever the parser reads
pub record ReadsAs {A : Type 0} (says : List TokenTree → A → Type 0) (parser : Parser A) : Type 0 where
  pub of : (input after : Input) (found : A) → parser input ≡ Some (found, after) → ReadAs says input after found

-- the items that were read behind others
record Behind {A : Type 0} (says : List TokenTree → A → Type 0) (trees : List TokenTree) (found all : List A) : Type 0 where
  items : List A
  is : all ≡ found ++ items
  stand : ListOf says trees items

module _ {A : Type 0} (says : List TokenTree → A → Type 0) (item : Parser A) (h : ReadsAs says item) where
  -- nothing more, or what stands behind
  ended : (other : Parser (List A)) (input after : Input) (found all : List A) → (other input ≡ Some (all, after) → Behind says input.rest found all) → (b : Bool) → is_end input.rest ≡ b
      → (if b then pure found else other) input ≡ Some (all, after) → Behind says input.rest found all
  ended other input after found all go false done e = go e
  ended other input after found all go true done e =
      let both = some_pair_parts found all input after e in
      record { items = []; is = sym both.0 ∙ sym (append-nil found); stand = subst (λ (trees : List TokenTree). ListOf says trees []) (sym (end-is input.rest done)) no_items }

  -- an item, and what stands behind it
  one : (input after : Input) (value : A) (found all : List A) (others : Parser (List A)) (trees : List TokenTree) (place : Span) → ReadAs says input (record { rest = trees; last = place }) value → after.rest ≡ []
      → ((later : Input) → others later ≡ Some (all, after) → Behind says later.rest (found ++ value ∷ []) all) → (b : Bool) → is_comma trees ≡ b
      → (if b then others else pure (found ++ value ∷ [])) (after_eat 1 b (record { rest = trees; last = place })) ≡ Some (all, after) → Behind says input.rest found all
  unfolding after_eat skipped next mark_of
  one input after value found all others trees place read end go false comma e =
      let both = some_pair_parts (found ++ value ∷ []) all (record { rest = trees; last = place }) after e in
      let none : trees ≡ [] = ap (λ (input : Input). input.rest) both.1 ∙ end in
      let whole : input.rest ≡ read.read = read.is ∙ ap (λ trees. read.read ++ trees) none ∙ append-nil read.read in
      record { items = value ∷ []; is = sym both.0; stand = subst (λ (trees : List TokenTree). ListOf says trees (value ∷ [])) (sym whole) (last_item read.read value read.there) }
  one input after value found all others [] place read end go true comma e = absurd (both_ways _ refl comma)
  one input after value found all others (tree ∷ trees) place read end go true comma e =
      let later = go _ e in
      record {
        items = value ∷ later.items;
        is = later.is ∙ append_assoc found (value ∷ []) later.items;
        stand = subst (λ (trees : List TokenTree). ListOf says trees (value ∷ later.items)) (sym read.is) (more_items read.read tree trees value later.items read.there comma later.stand);
      }

  all_items : (turns : ℕ) (input after : Input) (found all : List A) → items_from item turns found input ≡ Some (all, after) → after.rest ≡ [] → Behind says input.rest found all
  unfolding items_from
  all_items zero input after found all e end = ended refuse input after found all (λ e. absurd cc) (is_end input.rest) refl e
  all_items (suc turns) input after found all e end =
      ended (item >>= (λ value. eat 1 is_comma >>= (λ more. if more then items_from item turns (found ++ value ∷ []) else pure (found ++ value ∷ [])))) input after found all (λ e.
      let parts = bind-at (item input) (λ value. eat 1 is_comma >>= (λ more. if more then items_from item turns (found ++ value ∷ []) else pure (found ++ value ∷ []))) all after e in
      one input after parts.0 found all (items_from item turns (found ++ parts.0 ∷ [])) parts.1.rest parts.1.last (h.of input parts.1 parts.0 parts.2) end
      (λ later e. all_items turns later after (found ++ parts.0 ∷ []) all e end) (is_comma parts.1.rest) refl parts.3) (is_end input.rest) refl e

-- a list behind which nothing is left
pub all_listed : {A : Type 0} {says : List TokenTree → A → Type 0} {item : Parser A} → ReadsAs says item → (trees : List TokenTree) (after : Input) (found : List A) → list item (start_of trees) ≡ Some (found, after) → after.rest ≡ [] → ListOf says trees found
all_listed {A} {says} {item} h trees after found e end =
    let behind = all_items says item h (length trees) (start_of trees) after [] found e end in
    subst (λ (items : List A). ListOf says trees items) (sym behind.is) behind.stand

-- a list that all of the tokens are
pub whole-listed : {A : Type 0} {says : List TokenTree → A → Type 0} {item : Parser A} → ReadsAs says item → (tokens : TokenStream) (found : List A) → whole (list item) tokens ≡ Some found → ListOf says (out-TokenStream tokens).trees found
whole-listed {item = item} h tokens found e =
    let trees : List TokenTree = (out-TokenStream tokens).trees in
    let source = all-parts (list item (start_of trees)) found e in
    all_listed h trees source.0 found source.1 source.2

-- ---- items that stand where their tokens do

pub reads-stand : {A : Type 0} {span_of : A → Span} {item : Parser A} → Stands span_of item → ReadsAs (StandsAt span_of) item
reads-stand h = record { of = λ input after found e. let one = h.of input after found e in record { read = one.read; is = one.is; there = one.there } }

pub all_listed-stand : {A : Type 0} {span_of : A → Span} {item : Parser A} → Stands span_of item → (trees : List TokenTree) (after : Input) (found : List A) → list item (start_of trees) ≡ Some (found, after) → after.rest ≡ [] → ListStands span_of trees found
all_listed-stand h = all_listed (reads-stand h)

list-stands : {A : Type 0} {span_of : A → Span} {item : Parser A} → Stands span_of item → (tokens : TokenStream) (found : List A) → whole (list item) tokens ≡ Some found → ListStands span_of (out-TokenStream tokens).trees found
list-stands h = whole-listed (reads-stand h)

pub exprs_of-stand : (tokens : TokenStream) (found : List Expr) → exprs_of tokens ≡ Some found → ListStands expr_span (out-TokenStream tokens).trees found
unfolding exprs_of
exprs_of-stand = list-stands (expr-stands max_depth any_level)

pub idents_of-stand : (tokens : TokenStream) (found : List Ident) → idents_of tokens ≡ Some found → ListStands (λ it. it.span) (out-TokenStream tokens).trees found
unfolding idents_of
idents_of-stand = list-stands name-stands

pub paths_of-stand : (tokens : TokenStream) (found : List Path) → paths_of tokens ≡ Some found → ListStands path_span (out-TokenStream tokens).trees found
unfolding paths_of
paths_of-stand = list-stands (path-stands max_depth true)

pub fn_args_of-stand : (tokens : TokenStream) (found : List FnArg) → fn_args_of tokens ≡ Some found → ListStands (λ it. it.span) (out-TokenStream tokens).trees found
unfolding fn_args_of
fn_args_of-stand = list-stands (fn_arg-stands max_depth)
