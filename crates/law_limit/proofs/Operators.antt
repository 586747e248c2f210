-- The rules of operators and ranges read as much where the readers of their parts do.
use Rattle.std.proofs.Common.{ℕ, zero, suc, ◌==◌, false, Option, Some, None}
use Rattle.tok_types.specs.declared.span.Span.{Span}
use Rattle.node_expr.specs.declared.expr.Expr.{Expr}
use Rattle.node_expr.specs.declared.expr.Expr.TheVariants as expr
use Rattle.node_expr.specs.declared.expr.UnOp.{UnOp}
use Rattle.node_expr.specs.declared.expr.UnOp.TheVariants as op
use Rattle.syn_grammar.specs.declared.look.Infix.{Infix}
use Rattle.syn_grammar.specs.declared.look.OperandStart.{OperandStart}
use Rattle.syn_grammar.specs.declared.look.OperandStart.TheVariants as begin
use Rattle.syn_grammar.specs.declared.word.Word.TheVariants as word
use Rattle.syn_grammar.specs.Expressions.{dots, unary, reference, operand_by, operand, right_of, chain_by, chain_from, compared, chain, binary_from, binary, range_from, range, any, expr_step}
use Rattle.syn_grammar.specs.Input.{Parser, here, pure, refuse, skip, skip_by, eat, test}
use Rattle.syn_grammar.specs.Look.{at_level, begins_closure, begins_operand, operand_start, operator_of}
use Rattle.syn_grammar.specs.Make as make
use Rattle.syn_grammar.specs.Readers.{Readers, operand_level, or_level, range_level, any_level, constant_level}
use Rattle.syn_grammar.specs.Token.{is_dots}
use Rattle.syn_grammar.specs.Words.{peek}
use Rattle.law_limit.specs.IsExtendedBy.{IsExtendedBy}
use Rattle.law_limit.proofs.Atoms.{closure-more, constant-more}
use Rattle.law_limit.proofs.Paths.{AllExtended}
use Rattle.law_limit.proofs.Postfixes.{postfixed-more}
use Rattle.law_limit.proofs.Steps.{same, gives, close, bind, so, branch, turns}

module _ (readers others : Readers) (parts : AllExtended readers others) where
  unary-more : (op : UnOp) → IsExtendedBy (unary readers op) (unary others op)
  unfolding unary
  unary-more op = so here (λ start. so skip (λ mark. bind (parts.expr operand_level) (λ operand. close start (expr.Unary op operand))))

  reference-more : IsExtendedBy (reference readers) (reference others)
  unfolding reference
  reference-more = so here (λ start. so skip (λ mark. so (eat 1 (peek word.Mut)) (λ mutable. bind (parts.expr operand_level) (λ operand. close start (expr.Reference mutable operand)))))

  operand_by-more : (begins : OperandStart) → IsExtendedBy (operand_by readers begins) (operand_by others begins)
  operand_by-more begin.Neg = unary-more op.Neg
  operand_by-more begin.Not = unary-more op.Not
  operand_by-more begin.Deref = unary-more op.Deref
  operand_by-more begin.Reference = reference-more
  operand_by-more (begin.Atom begins) = postfixed-more readers others parts begins

  operand-more : IsExtendedBy (operand readers) (operand others)
  unfolding operand
  operand-more = so (test operand_start) operand_by-more

  module _ (start : Span) where
    right_of-more : (below : ℕ) (left : Expr) (op : Infix) → IsExtendedBy (right_of readers start below left op) (right_of others start below left op)
    unfolding right_of
    right_of-more below left op = so (skip_by op.width) (λ marks. bind (parts.expr below) (λ right. close start (expr.Binary left op.op right)))

    chain_by-more : (below : ℕ) (more also : Expr → Parser Expr) → ((longer : Expr) → IsExtendedBy (more longer) (also longer)) → (left : Expr) (found : Option Infix)
        → IsExtendedBy (chain_by readers more start below left found) (chain_by others also start below left found)
    chain_by-more below more also h left (Some op) = bind (right_of-more below left op) h
    chain_by-more below more also h left None = gives left

    chain_from-more : (below count : ℕ) (left : Expr) → IsExtendedBy (chain_from readers start below count left) (chain_from others start below count left)
    unfolding chain_from
    chain_from-more below zero left = same (chain_from readers start below zero left)
    chain_from-more below (suc count) left = so (test operator_of) (λ found. chain_by-more below (chain_from readers start below count) (chain_from others start below count) (chain_from-more below count) left (at_level (suc below) found))

    compared-more : (below : ℕ) (left : Expr) → IsExtendedBy (compared readers start below left) (compared others start below left)
    unfolding compared
    compared-more below left = so (test operator_of) (λ found. chain_by-more below pure pure gives left (at_level (suc below) found))

    chain-more : (below : ℕ) (left : Expr) → IsExtendedBy (chain readers start below left) (chain others start below left)
    unfolding chain
    chain-more below left = branch (below == 6) (compared-more below left) (turns (λ count. chain_from-more below count left))

    binary_from-more : (level : ℕ) → IsExtendedBy (binary_from readers start level) (binary_from others start level)
    unfolding binary_from
    binary_from-more zero = operand-more
    binary_from-more (suc below) = bind (binary_from-more below) (chain-more below)

    range_from-more : (left : Option Expr) → IsExtendedBy (range_from readers start left) (range_from others start left)
    unfolding range_from
    range_from-more left = so (dots readers) (λ closed. so (test begins_operand) (λ bounded. branch bounded (bind (parts.expr or_level) (λ right. close start (make.expr_range left (Some right) closed)))
        (branch closed (same refuse) (close start (make.expr_range left None false)))))

  binary-more : (level : ℕ) → IsExtendedBy (binary readers level) (binary others level)
  unfolding binary
  binary-more level = so here (λ start. binary_from-more start level)

  range-more : IsExtendedBy (range readers) (range others)
  unfolding range
  range-more = so here (λ start. so (test is_dots) (λ unbounded. branch unbounded (range_from-more start None) (bind (binary-more or_level) (λ left. so (test is_dots) (λ ranged. branch ranged (range_from-more start (Some left)) (gives left))))))

  any-more : IsExtendedBy (any readers) (any others)
  unfolding any
  any-more = so (test begins_closure) (λ closed. branch closed (closure-more readers others parts) range-more)

  pub expr_step-more : (level : ℕ) → IsExtendedBy (expr_step readers level) (expr_step others level)
  unfolding expr_step
  expr_step-more level = branch (level == any_level) any-more (branch (level == range_level) range-more (branch (level == constant_level) (constant-more readers others parts) (binary-more level)))
