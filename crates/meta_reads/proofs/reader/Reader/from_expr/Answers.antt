use Rattle.std.proofs.Common.{rules, ◌≡◌, sym, ◌∙◌, Result, None}
use Rattle.std.specs.Option.{unwrap_or}
use Rattle.node_expr.specs.declared.expr.Expr.{Expr, out-Expr}
use Rattle.node_expr.specs.declared.expr.Expr.TheVariants as expr
use Rattle.node_expr.specs.declared.lit.Lit.{Lit}
use Rattle.error_core.specs.Answers.{Answers}
use Rattle.error_core.specs.declared.fail.Fail.{Fail}
use Rattle.meta_nested.specs.Cells.{Cells}
use Rattle.meta_nested.specs.Dispatch.{by_expr, from_value}
use Rattle.meta_nested.proofs.PlaceLemmas.{answers_at}
use Rattle.meta_reads.proofs.reader.Reader.from_expr.Goals as goal
use Rattle.meta_reads.proofs.reader.Reader.from_expr.Goals.{in-Ok-Some, in-Ok-None+in-Lit, in-Ok-None+in_default+in_ok-unexpected_expr_type-in_default, in-Err}

-- a literal is answered as a literal is
of_literal : {X A : Type 0} (seen : X → A) (answer result : Result X Fail) (cells : Cells A) (whole inner found : Expr) (it : Lit)
    → answer ≡ result → cells.expr whole ≡ None → found ≡ inner → found ≡ expr.Lit it → Answers seen result (from_value cells it)
    → Answers seen answer (unwrap_or (cells.expr whole) (by_expr cells inner (out-Expr inner)))
of_literal seen answer result cells whole inner found it same none is_inner is_literal answers =
    rw same (rw none (rw (sym is_inner ∙ is_literal) (rw (expr.outs-Lit it) answers)))

pub returns : goal.returns
returns g c = rw c.spanned-2.ensures (rw c.spanned.ensures (answers_at g.Self.Reader.seen c.match-cell.answer _ _ (elim c.match-cell.branch [
  | in-Ok-Some w ↦ search (rules, w.answer-is, w.in-Ok-Some, c.cell.ensures)
  | in-Ok-None+in-Lit w ↦ of_literal g.Self.Reader.seen _ _ (g.Self.Reader.cells c.args.self.now) c.args.expr.now _ _ _ w.answer-is (search (rules, w.in-Ok-None, c.cell.ensures)) w.without_groups.ensures w.in-Lit.is w.from_value.ensures
  | in-Ok-None+in_default+in_ok-unexpected_expr_type-in_default w ↦ search (rules, w.answer-is, w.in-Ok-None, w.in_default, w.without_groups.ensures, w.unexpected_expr_type.ensures, c.cell.ensures)
  | in-Err w ↦ search (rules, w.answer-is, w.in-Err, c.cell.ensures)
])))
