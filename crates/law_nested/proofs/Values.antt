-- The law of printing for values: the shortest run is printed as tokens of which it is the shortest run again.
use Rattle.std.proofs.Common.{◌≡◌, ℕ, ◌-◌, Bool, true, false, [], ◌∷◌, ◌++◌, length, take, drop, Option, Some, None, refl, arith, sym, subst, ap, ◌∙◌, length-append}
use Rattle.std.proofs.lemmas.List.{append_cancel_right}
use Rattle.std.proofs.lemmas.Option.{some_pair_parts}
use Rattle.tok_types.specs.declared.span.Span.{Span}
use Rattle.tok_types.specs.declared.span.Span.TheVariants.{CallSite}
use Rattle.node_expr.specs.declared.expr.Expr.{Expr}
use Rattle.node_expr.specs.declared.expr.Expr.TheVariants as expr
use Rattle.node_expr.specs.declared.lit.Lit.{Lit}
use Rattle.syn_grammar.specs.Grammar.{within, max_depth}
use Rattle.syn_grammar.specs.Input.{Input, Outcome, Parser, start_of}
use Rattle.syn_grammar.specs.Readers.{any_level}
use Rattle.syn_grammar.specs.Token.{is_mark}
use Rattle.syn_items.specs.Attributes.{expr_in, number_in}
use Rattle.meta_nested.specs.Values.{run_of, shortest_run}
use Rattle.meta_nested.proofs.Numbers.{IsNumber, number-is, number-run, number-runs}
use Rattle.meta_nested.proofs.Readings.{all-parts, read-run, run-parts}
use Rattle.meta_nested.proofs.Runs.{shortest_run-expr, shortest_run-none, shortest_run-number, shortest_run-on}
use Rattle.print_core.specs.Literals.{lit_tokens}
use Rattle.print_core.specs.Marks.{Trees}
use Rattle.print_core.specs.Nodes.{expr_tokens}
use Rattle.law_spans.specs.Erased.{erased_expr, erased_lit}
use Rattle.law_spans.proofs.Made.{bare_expr-Lit}
use Rattle.law_prefix.specs.SameLookahead.{SameLookahead, stops}
use Rattle.law_prefix.specs.ReadsByPrefix.{at, ReadsByPrefix}
use Rattle.law_prefix.proofs.Within.{front-before, front-of, within-fronts}
use Rattle.law_round_trip.proofs.Exprs.{print-Lit}
use Rattle.law_round_trip.proofs.Within.{within-backs}
use Rattle.law_round_trip.proofs.Wholes.{all-again}
use Rattle.law_round_trip_items.proofs.Signs.{number-expr, unsigned}
use Rattle.law_round_trip_items.proofs.Values.{signed-back}
use Rattle.law_nested.proofs.Beginnings.{no-hash}
use Rattle.law_nested.proofs.Stops.{Ended}

abbrev pub an_expr : Parser Expr
an_expr = (within max_depth).expr any_level

front : ReadsByPrefix SameLookahead an_expr
front = front-of ((within-fronts max_depth).expr any_level)

-- of its printing the value is the shortest run, which no `#` (35) begins
pub record RunAgain (found : Expr) (tail : Trees) : Type 0 where
  pub value : Expr
  pub is : shortest_run (expr_tokens found ++ tail) ≡ Some (value, length (expr_tokens found))
  pub same : erased_expr value ≡ erased_expr found
  pub hash : is_mark 35 (expr_tokens found ++ tail) ≡ false

-- ---- numbers

two-run : (trees : Trees) (number : IsNumber trees) (tail : Trees) → stops tail ≡ true → run_of number_in (trees ++ tail) 2 ≡ number_in trees
two-run trees number tail stop = rw (number.is, stop) refl

number-hash : (trees : Trees) (number : IsNumber trees) (tail : Trees) → is_mark 35 (trees ++ tail) ≡ false
unfolding Rattle.syn_grammar.specs.Token.mark_of
number-hash trees number tail = rw (number.is, number.begins) refl

number-again : (trees : Trees) (found : Lit) → number_in trees ≡ Some found → (tail : Trees) → Ended tail → RunAgain (expr.Lit found) tail
number-again trees found e tail ended =
    let again = all-again signed-back tt trees found e in
    let number = number-is (lit_tokens found) again.0 again.1 in
    let sizes : length (lit_tokens found) ≡ 2 = ap length number.is in
    made again.0 again.1 again.2 number sizes
  where
    made : (other : Lit) → number_in (lit_tokens found) ≡ Some other → erased_lit other ≡ erased_lit found → (number : IsNumber (lit_tokens found)) → length (lit_tokens found) ≡ 2 → RunAgain (expr.Lit found) tail
    made other is same number sizes = record {
      value = expr.Lit other;
      is = rw (print-Lit found, sizes) (shortest_run-number (lit_tokens found ++ tail) other (two-run (lit_tokens found) number tail ended.stop ∙ is));
      same = rw (bare_expr-Lit, bare_expr-Lit, same) refl;
      hash = rw (print-Lit found) (number-hash (lit_tokens found) number tail);
    }

-- ---- expressions

-- an expression that is no number is printed as none
stays-unsigned : (trees : Trees) (found : Expr) (after : Input) → an_expr (start_of trees) ≡ Some (found, after) → stops after.rest ≡ true → run_of number_in trees 2 ≡ None → number_in (expr_tokens found) ≡ None
stays-unsigned trees found after e stop none =
    let count : ℕ = length trees - length after.rest in
    let run = run-parts expr_in trees count found (read-run front trees after found e stop) in
    unsigned (within-backs max_depth) (take count trees) found run.1 (rw run.0 at (number-runs trees none count))

-- a number at the front is an expression
pub number-read : (trees : Trees) (number : Lit) → run_of number_in trees 2 ≡ Some number → (value : Expr) × (last : Span) × (an_expr (start_of trees) ≡ Some (value, at (drop 2 trees) last))
number-read trees number e =
    let run = number-run trees 2 number e in
    let two : Trees = run.0.minus ∷ run.0.token ∷ [] in
    let alone = number-expr two number run.3 in
    let whole = all-parts (an_expr (start_of two)) alone.0 alone.1 in
    (alone.0, whole.0.last, ap (λ trees. an_expr (start_of trees)) run.1 ∙ front-before front (start_of two) whole.0 alone.0 whole.1 whole.2 (drop 2 trees) CallSite run.2)

-- What is read up to the tail is no number, where its tokens are none.
number-none : (tokens tail : Trees) (value : Expr) (new : Span) → an_expr (start_of (tokens ++ tail)) ≡ Some (value, at tail new) → number_in tokens ≡ None → run_of number_in (tokens ++ tail) 2 ≡ None
number-none tokens tail value new read none = by (run_of number_in (tokens ++ tail) 2) refl
  where
    by : (run : Option Lit) → run_of number_in (tokens ++ tail) 2 ≡ run → run_of number_in (tokens ++ tail) 2 ≡ None
    by None is = is
    by (Some number) is =
        let run = number-run (tokens ++ tail) 2 number is in
        let one = number-read (tokens ++ tail) number is in
        let both = some_pair_parts one.0 value (at (drop 2 (tokens ++ tail)) one.1) (at tail new) (sym one.2 ∙ read) in
        let two : Trees = run.0.minus ∷ run.0.token ∷ [] in
        let same : tokens ≡ two = append_cancel_right tokens two tail (run.1 ∙ ap (λ (input : Input). two ++ input.rest) both.1) in
        let clash = sym none ∙ (ap number_in same ∙ run.3) in
        absurd cc

expr-again : (trees : Trees) (found : Expr) (after : Input) → an_expr (start_of trees) ≡ Some (found, after) → stops after.rest ≡ true → run_of number_in trees 2 ≡ None → (tail : Trees) → Ended tail → RunAgain found tail
expr-again trees found after e stop none tail ended =
    let one = ((within-backs max_depth).expr any_level).of (start_of trees) after found e in
    let more = one.again tail CallSite (ended.expr after.rest) in
    let none = number-none (expr_tokens found) tail more.value more.new more.is (stays-unsigned trees found after e stop none) in
    let run = shortest_run-expr (expr_tokens found ++ tail) (at tail more.new) more.value none more.is ended.stop in
    let sizes : length (expr_tokens found ++ tail) - length tail ≡ length (expr_tokens found) = omega (arith, length-append (expr_tokens found) tail) in
    record {
      value = more.value;
      is = run.1 ∙ ap (λ count. Some (more.value, count)) sizes;
      same = more.same;
      hash = no-hash (expr_tokens found ++ tail) (one.first tail (ended.expr after.rest)).begins;
    }

-- ---- any value

pub run-again : (trees : Trees) (found : Expr) (count : ℕ) → shortest_run trees ≡ Some (found, count) → (tail : Trees) → Ended tail → RunAgain found tail
run-again trees found count e tail ended = by (run_of number_in trees 2) refl
  where
    stopped : (value : Expr) (after : Input) (b : Bool) → stops after.rest ≡ b → run_of number_in trees 2 ≡ None → an_expr (start_of trees) ≡ Some (value, after) → RunAgain found tail
    stopped value after true stop none is =
        let run = shortest_run-expr trees after value none is stop in
        let both = some_pair_parts value found (length trees - length after.rest) count (sym run.1 ∙ e) in
        subst (λ found. RunAgain found tail) both.0 (expr-again trees value after is stop none tail ended)
    stopped value after false on none is = let clash = sym (shortest_run-on trees after value none is on) ∙ e in absurd cc

    read : (outcome : Outcome Expr) → an_expr (start_of trees) ≡ outcome → run_of number_in trees 2 ≡ None → RunAgain found tail
    read None is none = let clash = sym (shortest_run-none trees none is) ∙ e in absurd cc
    read (Some pair) is none = stopped pair.0 pair.1 (stops pair.1.rest) refl none is

    by : (run : Option Lit) → run_of number_in trees 2 ≡ run → RunAgain found tail
    by None is = read (an_expr (start_of trees)) refl is
    by (Some number) is =
        let both = some_pair_parts (expr.Lit number) found 2 count (sym (shortest_run-number trees number is) ∙ e) in
        subst (λ found. RunAgain found tail) both.0 (number-again (take 2 trees) number (run-parts number_in trees 2 number is).1 tail ended)
