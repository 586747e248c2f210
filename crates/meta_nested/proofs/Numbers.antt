-- A run that is a number with its sign: it has two tokens, and no run is shorter.
use Rattle.std.proofs.Common.{◌≡◌, ℕ, zero, suc, ◌<◌, Bool, true, false, List, [], ◌∷◌, ◌++◌, ◌==◌, take, drop, Option, Some, None, refl, arith, sym, ap, ◌∙◌, if◌then◌else◌}
use Rattle.std.proofs.lemmas.Bool.{eqb-true}
use Rattle.std.proofs.lemmas.List.{take-append-drop}
use Rattle.std.proofs.lemmas.Option.{some_pair_parts}
use Rattle.tok_types.specs.Span.{joined}
use Rattle.tok_types.specs.declared.span.Span.{Span}
use Rattle.tok_types.specs.declared.tree.Literal.{Literal}
use Rattle.tok_types.specs.declared.tree.TokenTree.{TokenTree, out-TokenTree}
use Rattle.tok_types.specs.declared.tree.TokenTree.TheOpen.{TokenTree-F}
use Rattle.node_expr.specs.declared.lit.Lit.{Lit}
use Rattle.syn_grammar.specs.Input.{Input, Outcome, Parser, ◌>>=◌, start_of, skipped, next, taken, expect, take_as, upto, first_span}
use Rattle.syn_grammar.specs.Literals.{lit_of}
use Rattle.syn_grammar.specs.Token.{Layer, mark_in, mark_of, literal_in, literal_of, is_mark}
use Rattle.law_prefix.specs.SameLookahead.{stops}
use Rattle.law_prefix.proofs.Steps.{bind-at}
use Rattle.syn_items.specs.Attributes.{negative, number_in, signed}
use Rattle.meta_nested.specs.Values.{run_of}
use Rattle.meta_nested.proofs.Readings.{all-parts, run-parts}

-- a minus (45) and a literal
pub record IsNumber (trees : List TokenTree) : Type 0 where
  pub minus : TokenTree
  pub token : TokenTree
  pub is : trees ≡ minus ∷ token ∷ []
  pub begins : mark_in (out-TokenTree minus) ≡ 45
  pub ends : mark_in (out-TokenTree token) ≡ 0

literal-mark : (layer : Layer) (found : Literal) → literal_in layer ≡ Some found → mark_in layer ≡ 0
literal-mark (TokenTree-F.Ident it) found e = refl
literal-mark (TokenTree-F.Lifetime it) found e = refl
literal-mark (TokenTree-F.Punct it) found e = absurd cc
literal-mark (TokenTree-F.Literal it) found e = refl
literal-mark (TokenTree-F.Group it) found e = refl

taken-parts : {A : Type 0} (of : Option A) (input after : Input) (found : A) → taken of input ≡ Some (found, after) → (of ≡ Some found) × (input ≡ after)
taken-parts None input after found e = absurd cc
taken-parts (Some value) input after found e = let both = some_pair_parts value found input after e in (ap Some both.0, both.1)

expect-parts : (count : ℕ) (holds : List TokenTree → Bool) (input after : Input) (done : Unit {0}) → expect count holds input ≡ Some (done, after) → (holds input.rest ≡ true) × (skipped count input ≡ after)
expect-parts count holds input after done e = by (holds input.rest) refl e
  where
    by : (b : Bool) → holds input.rest ≡ b → ◌≡◌ {A = Outcome (Unit {0})} (if b then Some (tt, skipped count input) else None) (Some (done, after)) → (holds input.rest ≡ true) × (skipped count input ≡ after)
    by true is e = let both = some_pair_parts tt done (skipped count input) after e in (is, both.1)
    by false is e = absurd cc

two-tokens : (trees : List TokenTree) (found : Literal) → is_mark 45 trees ≡ true → literal_of (skipped 1 (start_of trees)).rest ≡ Some found → (next (skipped 1 (start_of trees))).rest ≡ [] → IsNumber trees
unfolding skipped next mark_of literal_of
two-tokens [] found minus literal none = absurd cc
two-tokens (one ∷ []) found minus literal none = absurd cc
two-tokens (one ∷ two ∷ []) found minus literal none = record { minus = one; token = two; is = refl; begins = eqb-true _ _ minus; ends = literal-mark (out-TokenTree two) found literal }
two-tokens (one ∷ two ∷ three ∷ trees) found minus literal none = absurd cc

pub number-is : (trees : List TokenTree) (found : Lit) → number_in trees ≡ Some found → IsNumber trees
unfolding signed
number-is trees found e =
    let whole = all-parts (signed (start_of trees)) found e in
    let close : Span → Literal → Parser Lit = λ span token. taken (negative span (lit_of token)) in
    let minus = bind-at (expect 1 (is_mark 45) (start_of trees)) (λ minus. take_as literal_of >>= (λ token. upto (first_span trees) >>= (λ span. close span token))) found whole.0 whole.1 in
    let marked = expect-parts 1 (is_mark 45) (start_of trees) minus.1 minus.0 minus.2 in
    let token = bind-at (take_as literal_of minus.1) (λ token. upto (first_span trees) >>= (λ span. close span token)) found whole.0 minus.3 in
    let literal = taken-parts (literal_of minus.1.rest) (next minus.1) token.1 token.0 token.2 in
    let end = taken-parts (negative (joined (first_span trees) token.1.last) (lit_of token.0)) token.1 whole.0 found token.3 in
    let behind : next (skipped 1 (start_of trees)) ≡ whole.0 = ap next marked.1 ∙ literal.1 ∙ end.1 in
    two-tokens trees token.0 marked.0 (ap (λ (input : Input). literal_of input.rest) marked.1 ∙ literal.0) (ap (λ (input : Input). input.rest) behind ∙ whole.2)

-- A run that is a number begins the tokens, and what follows it stops.
pub number-run : (trees : List TokenTree) (count : ℕ) (found : Lit) → run_of number_in trees count ≡ Some found
    → (number : IsNumber (take count trees)) × (trees ≡ number.minus ∷ number.token ∷ drop count trees) × (stops (drop count trees) ≡ true) × (number_in (number.minus ∷ number.token ∷ []) ≡ Some found)
number-run trees count found e =
    let run = run-parts number_in trees count found e in
    let number = number-is (take count trees) found run.1 in (
      number,
      sym (take-append-drop count trees) ∙ ap (λ front. front ++ drop count trees) number.is,
      run.0,
      ap number_in (sym number.is) ∙ run.1,
    )

-- A number is at two tokens, or nowhere.
pub number-runs : (trees : List TokenTree) → run_of number_in trees 2 ≡ None → (count : ℕ) → run_of number_in trees count ≡ None
number-runs trees none count = by (run_of number_in trees count) refl
  where
    by : (run : Option Lit) → run_of number_in trees count ≡ run → run_of number_in trees count ≡ None
    by None is = is
    by (Some found) is =
        let number = number-run trees count found is in
        let two : run_of number_in (number.0.minus ∷ number.0.token ∷ drop count trees) 2 ≡ Some found = rw number.2 number.3 in
        let same = sym (ap (λ trees. run_of number_in trees 2) number.1 ∙ two) ∙ none in
        absurd cc

-- nor where no mark comes first
pub number-unmarked : (trees : List TokenTree) → mark_of trees ≡ 0 → run_of number_in trees 2 ≡ None
unfolding mark_of
number-unmarked trees none = by (run_of number_in trees 2) refl
  where
    by : (run : Option Lit) → run_of number_in trees 2 ≡ run → run_of number_in trees 2 ≡ None
    by None is = is
    by (Some found) is =
        let number = number-run trees 2 found is in
        let minus : mark_of trees ≡ 45 = ap mark_of number.1 ∙ number.0.begins in
        let differ : zero ≡ 45 = sym none ∙ minus in
        absurd cc

-- Before its two tokens no run is there: neither a comma nor the end follows.
pub number-goes-on : (trees : List TokenTree) (found : Lit) → run_of number_in trees 2 ≡ Some found → (count : ℕ) → count < 2 → stops (drop count trees) ≡ false
unfolding mark_of
number-goes-on trees found e zero h = let number = number-run trees 2 found e in ap stops number.1 ∙ ap (λ ch. ch == 44) number.0.begins
number-goes-on trees found e (suc zero) h = let number = number-run trees 2 found e in ap (λ trees. stops (drop 1 trees)) number.1 ∙ ap (λ ch. ch == 44) number.0.ends
number-goes-on trees found e (suc (suc count)) h = absurd (omega arith)
