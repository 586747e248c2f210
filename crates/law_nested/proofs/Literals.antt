-- The law of printing for nested items that are literals.
use Rattle.std.proofs.Common.{◌≡◌, Bool, true, false, if◌then◌else◌, [], ◌∷◌, ◌++◌, Option, Some, None, refl, ap, subst, ◌∙◌, codes, sym}
use Rattle.std.proofs.lemmas.Bool.{eqb-true}
use Rattle.std.proofs.lemmas.Option.{some_pair_parts}
use Rattle.std.specs.Str.{chars}
use Rattle.tok_types.specs.declared.span.Span.{Span}
use Rattle.tok_types.specs.declared.span.Span.TheVariants.{CallSite}
use Rattle.tok_types.specs.declared.tree.Literal.{Literal}
use Rattle.tok_types.specs.declared.tree.TokenTree.{out-TokenTree}
use Rattle.tok_types.specs.declared.tree.TokenTree.TheOpen.{TokenTree-F}
use Rattle.tok_types.specs.declared.tree.TokenTree.TheVariants as token
use Rattle.node_expr.specs.declared.lit.Lit.{Lit}
use Rattle.node_expr.specs.declared.lit.Lit.TheVariants as lit
use Rattle.syn_grammar.specs.declared.word.Word.{Word}
use Rattle.syn_grammar.specs.declared.word.Word.TheVariants as word
use Rattle.syn_grammar.specs.Input.{Input, Parser, ◌<$>◌, first_span, is_end, next, pure, skipped, taken}
use Rattle.syn_grammar.specs.Literals.{lit_of, value_of}
use Rattle.syn_grammar.specs.Token.{Layer, after_one, is_mark, literal_of, mark_of, span_of}
use Rattle.syn_grammar.specs.Words.{next_word}
use Rattle.syn_items.specs.Attributes.{signed}
use Rattle.meta_nested.specs.declared.item.Found.{Found}
use Rattle.meta_nested.specs.declared.item.ItemStart.{ItemStart}
use Rattle.meta_nested.specs.declared.item.ItemStart.TheVariants as start
use Rattle.meta_nested.specs.Nested.{as_lit, bool_of, boolean, is_truth, item, item_by, item_start, literal}
use Rattle.print_core.specs.Literals.{lit_tokens}
use Rattle.print_core.specs.Marks.{Trees, word as printed_word}
use Rattle.law_spans.specs.Erased.{erased_lit}
use Rattle.law_prefix.specs.ReadsByPrefix.{at}
use Rattle.law_round_trip.specs.Printed.{Reads}
use Rattle.law_round_trip.proofs.Atoms.{is_true, sees-truth, truth_tokens, truth_word}
use Rattle.law_round_trip.proofs.AtomStarts.{literal_of-Literal}
use Rattle.law_round_trip.proofs.Exprs.{lit_tokens-by}
use Rattle.law_round_trip.proofs.Marks.{out-Ident, word-length}
use Rattle.law_round_trip.proofs.Starts.{mark-seen}
use Rattle.law_round_trip.proofs.Steps.{bind-at}
use Rattle.law_round_trip.proofs.Takes.{skipped-over}
use Rattle.law_round_trip_items.proofs.Values.{signed-back}
use Rattle.law_nested.proofs.Found.{Fits, erased_found, found_tokens}
use Rattle.law_nested.proofs.Stops.{Ended}

-- an item is read by where it starts
pub item-at : (which : ItemStart) (input : Input) → item_start input.rest ≡ which → item input ≡ item_by which input
unfolding item
item-at which input is = ap (λ which. item_by which input) is

-- an item starts so, and is not nothing
abbrev Starts : ItemStart → Trees → Type 0
Starts which tail = (item_start tail ≡ which) × (is_end tail ≡ false)

-- The tokens are read as the item before what fits it, as nothing does, and before nothing else.
pub record ReadsItem (tokens : Trees) (found : Found) : Type 0 where
  pub ends : Fits found []
  pub reads : Reads erased_found (λ tail. is_end tail ≡ false) (λ tail. Ended tail × Fits found tail) item tokens found
  pub only : (tail : Trees) (last : Span) (it : Found) (after : Input) → Ended tail → item (at (tokens ++ tail) last) ≡ Some (it, after) → erased_found it ≡ erased_found found → Fits found tail

-- what reads a literal
abbrev ReadsLit : ItemStart → Parser Lit → Lit → Type 0
ReadsLit which parser found = Reads erased_lit (Starts which) Ended parser (lit_tokens found) found

reads-item : (which : ItemStart) (parser : Parser Lit) (found : Lit) → ((input : Input) → item_by which input ≡ (as_lit <$> parser) input) → ReadsLit which parser found → ReadsItem (lit_tokens found) (as_lit found)
reads-item which parser found by one = record {
  ends = tt;
  reads = record {
    again = λ tail last f.
        let more = one.again tail last f.0 in
        record { value = as_lit more.value; new = more.new; is = item-at which (at (lit_tokens found ++ tail) last) (one.first tail f.0).0 ∙ (by (at (lit_tokens found ++ tail) last) ∙ rw (more.is) refl); same = ap as_lit more.same };
    first = λ tail f. (one.first tail f.0).1;
  };
  only = λ tail last it after f e same. tt;
}

-- ---- literals without a sign

token-starts : (it : Literal) (tail : Trees) → Starts start.Literal (token.Literal it ∷ tail)
token-starts it tail = (rw (literal_of-Literal it tail) refl, refl)

token-reads : (it : Literal) → ReadsLit start.Literal literal (lit_of it)
unfolding literal lit_of next span_of
token-reads it = rw (lit_tokens-by it (value_of (chars it.text))) (record {
  again = λ tail last f. record { value = lit_of it; new = span_of (token.Literal it); is = rw (literal_of-Literal it tail) refl; same = refl };
  first = λ tail f. token-starts it tail;
})

pub literal-reads : (input after : Input) (found : Lit) → literal input ≡ Some (found, after) → ReadsLit start.Literal literal found
unfolding literal
literal-reads input after found e = by (literal_of input.rest) refl e
  where
    by : (o : Option Literal) → literal_of input.rest ≡ o → (lit_of <$> (λ input. taken o (next input))) input ≡ Some (found, after) → ReadsLit start.Literal literal found
    by None is e = absurd cc
    by (Some it) is e = subst (ReadsLit start.Literal literal) (some_pair_parts (lit_of it) found (next input) after e).0 (token-reads it)

-- ---- truths

abbrev truth : Bool → Span → Lit
truth value span = lit.Bool (record { value = value; span = span })

bool_of-is : (it : Word) (span : Span) → bool_of it span ≡ truth (is_true it) span
bool_of-is word.True span = refl
bool_of-is _ span = refl

truth-literal : (value : Bool) (span : Span) (tail : Trees) → literal_of (truth_tokens value span ++ tail) ≡ None
unfolding printed_word literal_of
truth-literal value span tail = rw (out-Ident (record { text = (if value then codes "true" else codes "false"); raw = false; span = span })) refl

truth-after : (value : Bool) (span : Span) (tail : Trees) → after_one (truth_tokens value span ++ tail) ≡ tail
unfolding printed_word
truth-after value span tail = refl

truth-some : (value : Bool) (span : Span) (tail : Trees) → is_end (truth_tokens value span ++ tail) ≡ false
unfolding printed_word
truth-some value span tail = refl

truth-for : (value : Bool) → is_truth (truth_word value) ≡ true
truth-for true = refl
truth-for false = refl

for-truth : (value : Bool) (span : Span) → bool_of (truth_word value) span ≡ truth value span
for-truth true span = refl
for-truth false span = refl

truth-starts : (value : Bool) (span : Span) (tail : Trees) → Ended tail → Starts start.Boolean (truth_tokens value span ++ tail)
truth-starts value span tail ended = (rw (truth-literal value span tail, sees-truth value span tail, truth-for value, truth-after value span tail, ended.equals) refl, truth-some value span tail)

truth-reads : (value : Bool) (span : Span) → ReadsLit start.Boolean boolean (truth value span)
unfolding boolean next skipped
truth-reads value span = record {
  again = λ tail last f.
      let tokens = truth_tokens value span in
      let stands = skipped-over 1 tokens tail last (word-length (if value then codes "true" else codes "false") span) in
      record {
        value = truth value (first_span (tokens ++ tail));
        new = stands.0;
        is = ap (λ input. Some (bool_of (next_word (tokens ++ tail)) (first_span (tokens ++ tail)), input)) stands.1
            ∙ ap (λ value. Some (value, at tail stands.0)) (rw (sees-truth value span tail) (for-truth value (first_span (tokens ++ tail))));
        same = refl;
      };
  first = λ tail f. truth-starts value span tail f;
}

pub boolean-reads : (input after : Input) (found : Lit) → boolean input ≡ Some (found, after) → ReadsLit start.Boolean boolean found
unfolding boolean
boolean-reads input after found e =
    let both = some_pair_parts (bool_of (next_word input.rest) (first_span input.rest)) found (next input) after e in
    subst (ReadsLit start.Boolean boolean) (sym (bool_of-is (next_word input.rest) (first_span input.rest)) ∙ both.0) (truth-reads (is_true (next_word input.rest)) (first_span input.rest))

-- ---- numbers with a minus

signed-minus : (input after : Input) (found : Lit) → signed input ≡ Some (found, after) → is_mark 45 input.rest ≡ true
unfolding signed
signed-minus input after found e = by (is_mark 45 input.rest) refl
  where
    by : (b : Bool) → is_mark 45 input.rest ≡ b → is_mark 45 input.rest ≡ true
    by true is = is
    by false is = let none = rw is at e in absurd cc

mark-literal : (trees : Trees) → mark_of trees ≡ 45 → literal_of trees ≡ None
unfolding mark_of literal_of
mark-literal [] h = absurd cc
mark-literal (tree ∷ trees) h = by (out-TokenTree tree) refl
  where
    by : (layer : Layer) → out-TokenTree tree ≡ layer → literal_of (tree ∷ trees) ≡ None
    by (TokenTree-F.Ident it) is = let none = rw is at h in absurd cc
    by (TokenTree-F.Lifetime it) is = let none = rw is at h in absurd cc
    by (TokenTree-F.Literal it) is = let none = rw is at h in absurd cc
    by (TokenTree-F.Group it) is = let none = rw is at h in absurd cc
    by (TokenTree-F.Punct it) is = rw is refl

minus-starts : (trees : Trees) → is_mark 45 trees ≡ true → Starts start.Minus trees
minus-starts trees h =
    let minus = eqb-true (mark_of trees) 45 h in
    let seen = mark-seen 44 trees minus in
    (rw (mark-literal trees minus, seen.1, h) refl, seen.2)

pub signed-reads : (input after : Input) (found : Lit) → signed input ≡ Some (found, after) → ReadsLit start.Minus signed found
signed-reads input after found e =
    let one = signed-back.of input after found e in
    record {
      again = λ tail last f. one.again tail last tt;
      first = λ tail f. let more = one.again tail CallSite tt in minus-starts (lit_tokens found ++ tail) (signed-minus (at (lit_tokens found ++ tail) CallSite) (at tail more.new) more.value more.is);
    }

-- ---- each of them

made : (which : ItemStart) (parser : Parser Lit) → ((input : Input) → item_by which input ≡ (as_lit <$> parser) input) → ((input after : Input) (found : Lit) → parser input ≡ Some (found, after) → ReadsLit which parser found)
    → (input after : Input) (found : Found) → (as_lit <$> parser) input ≡ Some (found, after) → ReadsItem (found_tokens found) found
made which parser by reads input after found e =
    let parts = bind-at (parser input) (λ it. pure (as_lit it)) found after e in
    subst (λ found. ReadsItem (found_tokens found) found) (some_pair_parts (as_lit parts.0) found parts.1 after parts.3).0 (reads-item which parser parts.0 by (reads input parts.1 parts.0 parts.2))

pub literal-item : (input after : Input) (found : Found) → (as_lit <$> literal) input ≡ Some (found, after) → ReadsItem (found_tokens found) found
literal-item = made start.Literal literal (λ input. refl) literal-reads

pub boolean-item : (input after : Input) (found : Found) → (as_lit <$> boolean) input ≡ Some (found, after) → ReadsItem (found_tokens found) found
boolean-item = made start.Boolean boolean (λ input. refl) boolean-reads

pub signed-item : (input after : Input) (found : Found) → (as_lit <$> signed) input ≡ Some (found, after) → ReadsItem (found_tokens found) found
signed-item = made start.Minus signed (λ input. refl) signed-reads
