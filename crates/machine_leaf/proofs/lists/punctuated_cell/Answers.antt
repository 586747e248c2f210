use Rattle.std.proofs.Common.{refl}
use Rattle.print_core.specs.Items.{fn_arg_tokens}
use Rattle.print_core.specs.Marks.{ident}
use Rattle.print_core.specs.Nodes.{expr_tokens}
use Rattle.machine_cells.specs.Leaves.{plain, punctuated_value}
use Rattle.machine_leaf.proofs.lists.punctuated_cell.Goals as goal

pub returns-in-Expr : goal.returns-in-Expr
returns-in-Expr c = rw c.in-Expr.is (c.shown_cell.ensures (punctuated_value expr_tokens) (λ it. refl))

pub returns-in-Ident : goal.returns-in-Ident
returns-in-Ident c = rw c.in-Ident.is (c.shown_cell-in-Ident.ensures (punctuated_value ident) (λ it. refl))

pub returns-in-Path : goal.returns-in-Path
returns-in-Path c = rw c.in-Path.is (c.shown_cell-in-Path.ensures (punctuated_value plain) (λ it. refl))

pub returns-in-FnArg : goal.returns-in-FnArg
returns-in-FnArg c = rw c.in-FnArg.is (c.shown_cell-in-FnArg.ensures (punctuated_value fn_arg_tokens) (λ it. refl))
