-- The rules of operators and ranges do not see places.
use Rattle.std.proofs.Common.{◌≡◌, ℕ, zero, suc, false, ◌==◌, if◌then◌else◌, Option, Some, None, option_map, refl, ap}
use Rattle.tok_types.specs.declared.span.Span.{Span}
use Rattle.tok_types.specs.declared.span.Span.TheVariants.{CallSite}
use Rattle.node_expr.specs.declared.expr.Expr.{Expr}
use Rattle.node_expr.specs.declared.expr.Expr.TheVariants as expr
use Rattle.node_expr.specs.declared.expr.UnOp.{UnOp}
use Rattle.node_expr.specs.declared.expr.UnOp.TheVariants as op
use Rattle.syn_grammar.specs.declared.look.Infix.{Infix}
use Rattle.syn_grammar.specs.declared.look.OperandStart.{OperandStart}
use Rattle.syn_grammar.specs.declared.look.OperandStart.TheVariants as begin
use Rattle.syn_grammar.specs.declared.word.Word.TheVariants as word
use Rattle.syn_grammar.specs.Expressions.{unary, reference, operand_by, operand, right_of, chain_by, chain_from, compared, chain, binary_from, binary, dots, range_from, range, any, expr_step}
use Rattle.syn_grammar.specs.Input.{Parser, pure}
use Rattle.syn_grammar.specs.Look.{operand_start, operator_of, at_level, begins_operand, begins_closure}
use Rattle.syn_grammar.specs.Make as make
use Rattle.syn_grammar.specs.Readers.{Readers, operand_level, or_level, range_level, any_level, constant_level}
use Rattle.syn_grammar.specs.Token.{is_closed_dots, is_dots}
use Rattle.law_spans.specs.Erased.{erased_expr}
use Rattle.law_spans.specs.IgnoresSpans.{IgnoresSpans}
use Rattle.law_spans.proofs.Atoms.{closure-blind, constant-blind}
use Rattle.law_spans.proofs.Made.{bare_expr-Unary, bare_expr-Reference, bare_expr-Binary, bare_expr-Range}
use Rattle.law_spans.proofs.Paths.{AllIgnoreSpans}
use Rattle.law_spans.proofs.Postfixes.{postfixed-blind}
use Rattle.law_spans.proofs.Seen.{is_pair-bare, is_closed_dots-bare, sees-bare, operand_start-bare, operator_of-bare, begins_operand-bare, begins_closure-bare}
use Rattle.law_spans.proofs.Steps.{same, pure-blind, refuse-blind, then-blind, so-blind, if-blind, test-blind, here-blind, close-blind, skip-blind, skip_by-blind, eat-blind, at_end-blind, by_turns-blind}

module _ (readers : Readers) (parts : AllIgnoreSpans readers) where
  unary-blind : (op : UnOp) → IgnoresSpans erased_expr (unary readers op) (unary readers op)
  unfolding unary
  unary-blind op = here-blind (λ start there s. so-blind skip-blind (λ mark. then-blind (parts.expr operand_level) (λ operand operand' o.
      close-blind start there s (expr.Unary op operand) (expr.Unary op operand') (λ span. rw (← o) (bare_expr-Unary op operand span)))))

  reference-blind : IgnoresSpans erased_expr (reference readers) (reference readers)
  unfolding reference
  reference-blind = here-blind (λ start there s. so-blind skip-blind (λ mark. so-blind (eat-blind 1 (sees-bare word.Mut)) (λ mutable.
      then-blind (parts.expr operand_level) (λ operand operand' o.
      close-blind start there s (expr.Reference mutable operand) (expr.Reference mutable operand') (λ span. rw (← o) (bare_expr-Reference mutable operand span))))))

  operand_by-blind : (begins : OperandStart) → IgnoresSpans erased_expr (operand_by readers begins) (operand_by readers begins)
  operand_by-blind begin.Neg = unary-blind op.Neg
  operand_by-blind begin.Not = unary-blind op.Not
  operand_by-blind begin.Deref = unary-blind op.Deref
  operand_by-blind begin.Reference = reference-blind
  operand_by-blind (begin.Atom begins) = postfixed-blind readers parts begins

  operand-blind : IgnoresSpans erased_expr (operand readers) (operand readers)
  unfolding operand
  operand-blind = so-blind (test-blind operand_start operand_start operand_start-bare) operand_by-blind

  -- a left side that begins at one place in the source, and without places at another
  module _ (start there : Span) (s : CallSite ≡ there) where
    right_of-blind : (below : ℕ) (op : Infix) (left left' : Expr) → erased_expr left ≡ left' → IgnoresSpans erased_expr (right_of readers start below left op) (right_of readers there below left' op)
    unfolding right_of
    right_of-blind below op left left' l = so-blind (skip_by-blind op.width) (λ marks. then-blind (parts.expr below) (λ right right' r.
        close-blind start there s (expr.Binary left op.op right) (expr.Binary left' op.op right') (λ span. rw (← l, ← r) (bare_expr-Binary left op.op right span))))

    chain_by-blind : (below : ℕ) (more more' : Expr → Parser Expr) → ((longer longer' : Expr) → erased_expr longer ≡ longer' → IgnoresSpans erased_expr (more longer) (more' longer')) → (left left' : Expr) → erased_expr left ≡ left'
        → (found : Option Infix) → IgnoresSpans erased_expr (chain_by readers more start below left found) (chain_by readers more' there below left' found)
    chain_by-blind below more more' h left left' l (Some op) = then-blind (right_of-blind below op left left' l) h
    chain_by-blind below more more' h left left' l None = pure-blind left left' l

    chain_from-blind : (below turns : ℕ) (left left' : Expr) → erased_expr left ≡ left' → IgnoresSpans erased_expr (chain_from readers start below turns left) (chain_from readers there below turns left')
    unfolding chain_from
    chain_from-blind below zero left left' l = so-blind at_end-blind (λ done. if-blind done (pure-blind left left' l) refuse-blind)
    chain_from-blind below (suc turns) left left' l = so-blind (test-blind operator_of operator_of operator_of-bare) (λ found.
        chain_by-blind below (chain_from readers start below turns) (chain_from readers there below turns) (chain_from-blind below turns) left left' l (at_level (suc below) found))

    compared-blind : (below : ℕ) (left left' : Expr) → erased_expr left ≡ left' → IgnoresSpans erased_expr (compared readers start below left) (compared readers there below left')
    unfolding compared
    compared-blind below left left' l = so-blind (test-blind operator_of operator_of operator_of-bare) (λ found.
        chain_by-blind below pure pure (λ longer longer' e. pure-blind longer longer' e) left left' l (at_level (suc below) found))

    chain-blind : (below : ℕ) (left left' : Expr) → erased_expr left ≡ left' → IgnoresSpans erased_expr (chain readers start below left) (chain readers there below left')
    unfolding chain
    chain-blind below left left' l = if-blind (below == 6) (compared-blind below left left' l) (by_turns-blind (λ turns. chain_from-blind below turns left left' l))

    binary_from-blind : (level : ℕ) → IgnoresSpans erased_expr (binary_from readers start level) (binary_from readers there level)
    unfolding binary_from
    binary_from-blind zero = operand-blind
    binary_from-blind (suc below) = then-blind (binary_from-blind below) (chain-blind below)

  binary-blind : (level : ℕ) → IgnoresSpans erased_expr (binary readers level) (binary readers level)
  unfolding binary
  binary-blind level = here-blind (λ start there s. binary_from-blind start there s level)

  -- ---- ranges

  dots-blind : IgnoresSpans same (dots readers) (dots readers)
  dots-blind = so-blind (test-blind is_closed_dots is_closed_dots is_closed_dots-bare) (λ closed.
      so-blind (skip_by-blind (if closed then 3 else 2)) (λ marks. pure-blind closed closed refl))

  range_from-blind : (start there : Span) → CallSite ≡ there → (left left' : Option Expr) → option_map erased_expr left ≡ left' → IgnoresSpans erased_expr (range_from readers start left) (range_from readers there left')
  unfolding range_from
  range_from-blind start there s left left' l = so-blind dots-blind (λ closed. so-blind (test-blind begins_operand begins_operand begins_operand-bare) (λ bounded.
      if-blind bounded (then-blind (parts.expr or_level) (λ right right' r.
      close-blind start there s (make.expr_range left (Some right) closed) (make.expr_range left' (Some right') closed) (λ span. rw (← l, ← r) (bare_expr-Range left (Some right) closed span))))
      (if-blind closed refuse-blind
      (close-blind start there s (make.expr_range left None false) (make.expr_range left' None false) (λ span. rw (← l) (bare_expr-Range left None false span))))))

  range-blind : IgnoresSpans erased_expr (range readers) (range readers)
  unfolding range
  range-blind = here-blind (λ start there s. so-blind (test-blind is_dots is_dots (is_pair-bare 46 46)) (λ unbounded.
      if-blind unbounded (range_from-blind start there s None None refl) (
      then-blind (binary-blind or_level) (λ left left' l. so-blind (test-blind is_dots is_dots (is_pair-bare 46 46)) (λ ranged.
      if-blind ranged (range_from-blind start there s (Some left) (Some left') (ap Some l)) (pure-blind left left' l))))))

  -- ---- all levels

  any-blind : IgnoresSpans erased_expr (any readers) (any readers)
  unfolding any
  any-blind = so-blind (test-blind begins_closure begins_closure begins_closure-bare) (λ closed. if-blind closed (closure-blind readers parts) range-blind)

  pub expr_step-blind : (level : ℕ) → IgnoresSpans erased_expr (expr_step readers level) (expr_step readers level)
  unfolding expr_step
  expr_step-blind level = if-blind (level == any_level) any-blind
      (if-blind (level == range_level) range-blind
      (if-blind (level == constant_level) (constant-blind readers parts) (binary-blind level)))
