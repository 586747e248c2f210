use Rattle.std.proofs.Common.{refl}
use Rattle.print_core.specs.Items.{predicate_tokens}
use Rattle.print_core.specs.Marks.{ident}
use Rattle.machine_cells.specs.Leaves.{plain}
use Rattle.machine_cells.specs.Values.{syntax_list}
use Rattle.machine_leaf.proofs.lists.vec_cell.Goals as goal

pub returns-in-WherePredicate : goal.returns-in-WherePredicate
returns-in-WherePredicate c = rw c.in-WherePredicate.is (c.shown_cell.ensures (syntax_list predicate_tokens) (λ it. refl))

pub returns-in-Ident : goal.returns-in-Ident
returns-in-Ident c = rw c.in-Ident.is (c.shown_cell-in-Ident.ensures (syntax_list ident) (λ it. refl))

pub returns-in-Path : goal.returns-in-Path
returns-in-Path c = rw c.in-Path.is (c.shown_cell-in-Path.ensures (syntax_list plain) (λ it. refl))
