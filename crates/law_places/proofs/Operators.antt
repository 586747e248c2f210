-- Operators, ranges and all other expressions stand where their tokens do.
use Rattle.std.proofs.Common.{◌≡◌, ℕ, zero, suc, false, ◌==◌, if◌then◌else◌, Option, Some, None}
use Rattle.tok_types.specs.declared.span.Span.{Span}
use Rattle.node_expr.specs.declared.expr.Expr.{Expr}
use Rattle.node_expr.specs.declared.expr.Expr.TheVariants as expr
use Rattle.node_expr.specs.declared.expr.UnOp.{UnOp}
use Rattle.node_expr.specs.declared.expr.UnOp.TheVariants as op
use Rattle.node_span.specs.Spanned.{expr_span}
use Rattle.syn_grammar.specs.declared.look.Infix.{Infix}
use Rattle.syn_grammar.specs.declared.look.OperandStart.{OperandStart}
use Rattle.syn_grammar.specs.declared.look.OperandStart.TheVariants as begin
use Rattle.syn_grammar.specs.declared.word.Word.TheVariants as word
use Rattle.syn_grammar.specs.Expressions.{unary, reference, operand_by, operand, right_of, chain_by, chain_from, compared, chain, binary_from, binary, dots, range_from, range, any, expr_step}
use Rattle.syn_grammar.specs.Input.{Input, Parser, first_span, is_end, pure}
use Rattle.syn_grammar.specs.Look.{operand_start, operator_of, at_level, begins_operand, begins_closure}
use Rattle.syn_grammar.specs.Make as make
use Rattle.syn_grammar.specs.Readers.{Readers, operand_level, or_level, range_level, any_level, constant_level}
use Rattle.syn_grammar.specs.Token.{is_closed_dots, is_dots}
use Rattle.syn_grammar.specs.Words.{peek}
use Rattle.law_places.proofs.Atoms.{closure-here, constant-here}
use Rattle.law_places.proofs.Made.{unary-span, reference-span, binary-span, range-span}
use Rattle.law_places.proofs.Paths.{AllStand}
use Rattle.law_places.proofs.Postfixes.{postfixed-here}
use Rattle.law_places.proofs.Steps.{GoesAt, From, Goes, StandsHere, refuse-at, pure-at, pure-goes, then-at, so-at, if-at, seen-at, here-at, here_is-at, from-at, turns-at, close-at, skip-at, skip_by-at, eat-at}

dots-goes : (readers : Readers) → Goes (dots readers)
dots-goes readers input = seen-at is_closed_dots (λ closed. so-at (skip_by-at (if closed then 3 else 2) input) (λ marks later. pure-goes closed later))

module _ (readers : Readers) (parts : AllStand readers) where
  unary-here : (op : UnOp) → StandsHere expr_span (unary readers op)
  unfolding unary
  unary-here op input = here-at (λ start. so-at (skip-at input) (λ mark later. so-at (parts.expr operand_level later) (λ operand later.
      close-at start (expr.Unary op operand) later (unary-span op operand))))

  reference-here : StandsHere expr_span (reference readers)
  unfolding reference
  reference-here input = here-at (λ start. so-at (skip-at input) (λ mark later. so-at (eat-at 1 (peek word.Mut) later) (λ mutable later.
      so-at (parts.expr operand_level later) (λ operand later.
      close-at start (expr.Reference mutable operand) later (reference-span mutable operand)))))

  operand_by-here : (begins : OperandStart) → StandsHere expr_span (operand_by readers begins)
  operand_by-here begin.Neg input = unary-here op.Neg input
  operand_by-here begin.Not input = unary-here op.Not input
  operand_by-here begin.Deref input = unary-here op.Deref input
  operand_by-here begin.Reference input = reference-here input
  operand_by-here (begin.Atom begins) input = postfixed-here readers parts begins input

  operand-here : StandsHere expr_span (operand readers)
  unfolding operand
  operand-here input = seen-at operand_start (λ begins. operand_by-here begins input)

  -- ---- chains, each from the start of its first operand

  right_of-from : (start : Span) (below : ℕ) (left : Expr) (op : Infix) (input : Input) → GoesAt (From expr_span start) (right_of readers start below left op) input
  unfolding right_of
  right_of-from start below left op input = so-at (skip_by-at op.width input) (λ marks input. so-at (parts.expr below input) (λ right input.
      close-at start (expr.Binary left op.op right) input (binary-span left op.op right)))

  chain_by-from : (more : Expr → Parser Expr) (start : Span) → ((longer : Expr) (input : Input) → From expr_span start longer input → GoesAt (From expr_span start) (more longer) input)
      → (below : ℕ) (left : Expr) (found : Option Infix) (input : Input) → From expr_span start left input → GoesAt (From expr_span start) (chain_by readers more start below left found) input
  chain_by-from more start h below left (Some op) input l = then-at (right_of-from start below left op input) h
  chain_by-from more start h below left None input l = pure-at left input l

  chain_from-from : (start : Span) (below turns : ℕ) (left : Expr) (input : Input) → From expr_span start left input → GoesAt (From expr_span start) (chain_from readers start below turns left) input
  unfolding chain_from
  chain_from-from start below zero left input l = seen-at is_end (λ done. if-at done (pure-at left input l) (refuse-at input))
  chain_from-from start below (suc turns) left input l = seen-at operator_of (λ found. chain_by-from (chain_from readers start below turns) start (chain_from-from start below turns) below left (at_level (suc below) found) input l)

  compared-from : (start : Span) (below : ℕ) (left : Expr) (input : Input) → From expr_span start left input → GoesAt (From expr_span start) (compared readers start below left) input
  unfolding compared
  compared-from start below left input l = seen-at operator_of (λ found. chain_by-from pure start pure-at below left (at_level (suc below) found) input l)

  chain-from : (start : Span) (below : ℕ) (left : Expr) (input : Input) → From expr_span start left input → GoesAt (From expr_span start) (chain readers start below left) input
  unfolding chain
  chain-from start below left input l = if-at (below == 6) (compared-from start below left input l) (turns-at (λ turns. chain_from-from start below turns left input l))

  binary_from-from : (start : Span) (level : ℕ) (input : Input) → start ≡ first_span input.rest → GoesAt (From expr_span start) (binary_from readers start level) input
  unfolding binary_from
  binary_from-from start zero input is = from-at is (operand-here input)
  binary_from-from start (suc below) input is = then-at (binary_from-from start below input is) (λ left later l. chain-from start below left later l)

  binary-here : (level : ℕ) → StandsHere expr_span (binary readers level)
  unfolding binary
  binary-here level input = here_is-at (λ start is. binary_from-from start level input is)

  -- ---- ranges

  range_from-from : (start : Span) (left : Option Expr) (input : Input) → GoesAt (From expr_span start) (range_from readers start left) input
  unfolding range_from
  range_from-from start left input = so-at (dots-goes readers input) (λ closed input. seen-at begins_operand (λ bounded. if-at bounded
      (so-at (parts.expr or_level input) (λ right input. close-at start (make.expr_range left (Some right) closed) input (range-span left (Some right) closed)))
      (if-at closed (refuse-at input) (close-at start (make.expr_range left None false) input (range-span left None false)))))

  range-here : StandsHere expr_span (range readers)
  unfolding range
  range-here input = here_is-at (λ start is. seen-at is_dots (λ unbounded. if-at unbounded (range_from-from start None input) (
      then-at (from-at is (binary-here or_level input)) (λ left later l. seen-at is_dots (λ ranged. if-at ranged (range_from-from start (Some left) later) (pure-at left later l))))))

  -- ---- all levels

  any-here : StandsHere expr_span (any readers)
  unfolding any
  any-here input = seen-at begins_closure (λ closed. if-at closed (closure-here readers parts input) (range-here input))

  pub expr_step-here : (level : ℕ) → StandsHere expr_span (expr_step readers level)
  unfolding expr_step
  expr_step-here level input = if-at (level == any_level) (any-here input)
      (if-at (level == range_level) (range-here input)
      (if-at (level == constant_level) (constant-here readers parts input) (binary-here level input)))
