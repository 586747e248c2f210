-- The law of printing for closures: they print the tokens of their head as they kept them, and a body behind.
use Rattle.std.proofs.Common.{◌≡◌, ℕ, ◌<◌, ◌≤◌, Bool, true, false, ◌==◌, if◌then◌else◌, [], ◌∷◌, ◌++◌, length, Option, Some, None, refl, arith, ap, sym, subst, ◌∙◌, append_assoc}
use Rattle.std.proofs.Math.Bool.{and-false}
use Rattle.std.proofs.lemmas.Bool.{eqb-true}
use Rattle.tok_types.specs.Span.{joined}
use Rattle.tok_types.specs.declared.tree.TokenTree.{TokenTree, out-TokenTree}
use Rattle.tok_types.specs.declared.tree.TokenTree.TheOpen.{TokenTree-F}
use Rattle.node_expr.specs.declared.expr.BinOp.{BinOp}
use Rattle.node_expr.specs.declared.expr.BinOp.TheVariants as op
use Rattle.node_expr.specs.declared.expr.Expr.{Expr}
use Rattle.syn_grammar.specs.declared.look.Infix.{Infix}
use Rattle.syn_grammar.specs.Expressions.{closure}
use Rattle.syn_grammar.specs.Input.{Input}
use Rattle.syn_grammar.specs.Look.{at_level, begins_closure, is_there, level_of, operator_of}
use Rattle.syn_grammar.specs.Make as make
use Rattle.syn_grammar.specs.Readers.{Readers, any_level}
use Rattle.syn_grammar.specs.Token.{Layer, ident_of, is_arrow, is_group, is_joint, is_pair, mark_of}
use Rattle.syn_grammar.specs.Words.{next_word}
use Rattle.print_core.specs.Marks.{Trees}
use Rattle.print_core.specs.Nodes.{expr_tokens}
use Rattle.law_spans.specs.Erased.{erased_expr}
use Rattle.law_spans.proofs.Made.{bare_expr-Closure}
use Rattle.law_prefix.specs.Closures.{SameLookaheadOfBodies}
use Rattle.law_prefix.specs.ReadsByPrefix.{at}
use Rattle.law_prefix.proofs.Kept.{ClosureRead, closure-read}
use Rattle.law_prefix.proofs.Paths.{AllFronts}
use Rattle.law_round_trip.specs.Follow.{BeginsClosure, Looser, operates}
use Rattle.law_round_trip.specs.Parts.{AllRoundTrip}
use Rattle.law_round_trip.specs.Printed.{Reads, RoundTrips}
use Rattle.law_round_trip.proofs.Exprs.{print-Closure}
use Rattle.law_round_trip.proofs.Infix.{operator_of-read}

-- ---- what may follow the body

level_of-tight : (it : BinOp) → level_of it ≤ 9
level_of-tight op.Or = omega arith
level_of-tight _ = omega arith

-- no operator is looser than the ninth level
operates-tight : (level : ℕ) (trees : Trees) → operates level trees ≡ true → level ≤ 9
operates-tight level trees h = by (operator_of trees) refl h
  where
    at : (found : Infix) (b : Bool) → operator_of trees ≡ Some found → (found.level == level) ≡ b → is_there (if b then Some found else None) ≡ true → level ≤ 9
    at found true is same h = omega (arith, level_of-tight found.op, eqb-true found.level level same, ap (λ (it : Infix). it.level) (operator_of-read trees found is))
    at found false is same h = absurd cc

    by : (found : Option Infix) → operator_of trees ≡ found → is_there (at_level level found) ≡ true → level ≤ 9
    by (Some found) is h = at found (found.level == level) is refl h
    by None is h = absurd cc

-- what any expression does not go on with, no expression does
looser-any : (level : ℕ) (rest tail : Trees) → Looser any_level rest tail → Looser level rest tail
looser-any level rest tail f = record {
  colons = f.colons;
  turbofish = f.turbofish;
  called = f.called;
  postfix = f.postfix;
  operator = λ tighter within h. f.operator tighter (omega (arith, operates-tight tighter tail h)) h;
  dots = λ within. f.dots (omega arith);
  operand = λ within. f.operand (omega arith);
}

-- ---- what begins the head

-- what begins a closure is no `-`
closure-mark : (tree : TokenTree) (trees : Trees) → begins_closure (tree ∷ trees) ≡ true → is_arrow (tree ∷ trees) ≡ false
unfolding begins_closure is_pair is_joint mark_of next_word ident_of
closure-mark tree trees h = by (out-TokenTree tree) refl
  where
    by : (layer : Layer) → out-TokenTree tree ≡ layer → is_arrow (tree ∷ trees) ≡ false
    by (TokenTree-F.Ident it) is = rw is refl
    by (TokenTree-F.Lifetime it) is = rw is refl
    by (TokenTree-F.Literal it) is = rw is refl
    by (TokenTree-F.Group it) is = rw is refl
    by (TokenTree-F.Punct it) is = let bar : (it.ch == 124) ≡ true = rw is at h in rw (is, eqb-true it.ch 124 bar) (and-false it.joint)

closure-begin : (kept rest tail : Trees) → 0 < length kept → begins_closure (kept ++ rest) ≡ true → (begins_closure (kept ++ tail) ≡ true) × SameLookaheadOfBodies (kept ++ rest) (kept ++ tail)
unfolding begins_closure is_group mark_of next_word ident_of
closure-begin [] rest tail some h = absurd (omega (arith, some))
closure-begin (tree ∷ kept) rest tail some h = (h, record { bar = refl; arrow = closure-mark tree (kept ++ rest) h ∙ sym (closure-mark tree (kept ++ tail) h); block = refl })

module _ (readers : Readers) (parts : AllRoundTrip readers) (fronts : AllFronts readers) where
  closure-reads : (input after : Input) (found : Expr) (one : ClosureRead readers input after found)
      → Reads erased_expr (BeginsClosure input.rest) (Looser any_level after.rest) (closure readers) (one.kept ++ expr_tokens one.body) (make.expr_closure one.kept one.body (joined one.start after.last))
  closure-reads input after found one =
      let body = (parts.expr one.level).of one.between after one.body one.body_is in
      record {
        again = λ tail last f.
            let behind = looser-any one.level after.rest tail f in
            let more = body.again tail one.between.last (λ other. behind) in
            record {
              value = make.expr_closure one.kept more.value (joined one.start more.new);
              new = more.new;
              is = rw (append_assoc one.kept (expr_tokens one.body) tail) (one.again (expr_tokens one.body ++ tail) last more.value (at tail more.new) (body.first tail (λ other. behind)).bodies more.is);
              same = rw (bare_expr-Closure, bare_expr-Closure, more.same) refl;
            };
        first = λ tail f seen. rw (append_assoc one.kept (expr_tokens one.body) tail, one.is) (closure-begin one.kept one.between.rest (expr_tokens one.body ++ tail) one.some (rw one.is at seen));
      }

  pub closure-back : RoundTrips erased_expr expr_tokens BeginsClosure (Looser any_level) (closure readers)
  closure-back = record {
    of = λ input after found e.
        let one = closure-read readers fronts input after found e in
        rw (one.found_is) (subst (λ tokens. Reads erased_expr (BeginsClosure input.rest) (Looser any_level after.rest) (closure readers) tokens (make.expr_closure one.kept one.body (joined one.start after.last))) (sym (print-Closure one.kept one.body (joined one.start after.last)))
        (closure-reads input after found one));
  }
