use Rattle.std.proofs.Common.{refl}
use Rattle.print_core.specs.Items.{meta_tokens}
use Rattle.print_core.specs.Kinds.{array_tokens, range_tokens}
use Rattle.print_core.specs.Literals.{lit_tokens}
use Rattle.print_core.specs.Marks.{ident}
use Rattle.print_core.specs.Nodes.{expr_path_tokens, expr_tokens, type_path_tokens}
use Rattle.machine_value.specs.declared.value.Value.TheVariants as value
use Rattle.machine_cells.specs.Leaves.{plain}
use Rattle.machine_cells.specs.Values.{flag, syntax, syntax_list}
use Rattle.machine_leaf.proofs.table.leaf_cell.Goals as goal

pub returns-in-Bool : goal.returns-in-Bool
returns-in-Bool c = rw c.in-Bool.is (c.shown_cell.ensures value.Bool (λ it. refl))

pub returns-in-Char : goal.returns-in-Char
returns-in-Char c = rw c.in-Char.is (c.shown_cell-in-Char.ensures value.Char (λ it. refl))

pub returns-in-Flag : goal.returns-in-Flag
returns-in-Flag c = rw c.in-Flag.is (c.shown_cell-in-Flag.ensures flag (λ it. refl))

pub returns-in-Ident : goal.returns-in-Ident
returns-in-Ident c = rw c.in-Ident.is (c.shown_cell-in-Ident.ensures (syntax ident) (λ it. refl))

pub returns-in-IdentString : goal.returns-in-IdentString
returns-in-IdentString c = rw c.in-IdentString.is (c.shown_cell-in-IdentString.ensures (syntax ident) (λ it. refl))

pub returns-in-Path : goal.returns-in-Path
returns-in-Path c = rw c.in-Path.is (c.shown_cell-in-Path.ensures (syntax plain) (λ it. refl))

pub returns-in-Expr : goal.returns-in-Expr
returns-in-Expr c = rw c.in-Expr.is (c.shown_cell-in-Expr.ensures (syntax expr_tokens) (λ it. refl))

pub returns-in-PreservedStrExpr : goal.returns-in-PreservedStrExpr
returns-in-PreservedStrExpr c = rw c.in-PreservedStrExpr.is (c.shown_cell-in-PreservedStrExpr.ensures (syntax expr_tokens) (λ it. refl))

pub returns-in-ExprArray : goal.returns-in-ExprArray
returns-in-ExprArray c = rw c.in-ExprArray.is (c.shown_cell-in-ExprArray.ensures (syntax array_tokens) (λ it. refl))

pub returns-in-ExprPath : goal.returns-in-ExprPath
returns-in-ExprPath c = rw c.in-ExprPath.is (c.shown_cell-in-ExprPath.ensures (syntax expr_path_tokens) (λ it. refl))

pub returns-in-ExprRange : goal.returns-in-ExprRange
returns-in-ExprRange c = rw c.in-ExprRange.is (c.shown_cell-in-ExprRange.ensures (syntax range_tokens) (λ it. refl))

pub returns-in-TypePath : goal.returns-in-TypePath
returns-in-TypePath c = rw c.in-TypePath.is (c.shown_cell-in-TypePath.ensures (syntax type_path_tokens) (λ it. refl))

pub returns-in-Lit : goal.returns-in-Lit
returns-in-Lit c = rw c.in-Lit.is (c.shown_cell-in-Lit.ensures (syntax lit_tokens) (λ it. refl))

pub returns-in-PathList : goal.returns-in-PathList
returns-in-PathList c = rw c.in-PathList.is (c.shown_cell-in-PathList.ensures (syntax_list plain) (λ it. refl))

pub returns-in-Callable : goal.returns-in-Callable
returns-in-Callable c = rw c.in-Callable.is (c.shown_cell-in-Callable.ensures (syntax expr_tokens) (λ it. refl))

pub returns-in-Meta : goal.returns-in-Meta
returns-in-Meta c = rw c.in-Meta.is (c.shown_cell-in-Meta.ensures (syntax meta_tokens) (λ it. refl))
