use Rattle.tok_types.specs.Ident.{ident_text}
use Rattle.print_core.specs.Marks.{ident}
use Rattle.machine_cells.specs.Cells.{cell_at}
use Rattle.machine_cells.specs.Keys.{ident_same}
use Rattle.machine_cells.specs.Lists.{ident_item, names_cells}
use Rattle.machine_leaf.proofs.Names.{set_fails, set_found, set_none}
use Rattle.machine_leaf.proofs.sets.ident_set_cell.Goals as goal

pub returns-in-Ok-Some : goal.returns-in-Ok-Some
returns-in-Ok-Some c =
    rw (set_found ident_same ident_text (λ it. it.span) ident_item ident c.args.call _ (rw c.in-Ok-Some.field-0-is at c.in-Ok-Some.ensures))
    (c.names_answer.ensures (cell_at (names_cells ident_item) c.args.call) c.cell-in-Ok-Some.ensures)

pub returns-in-Ok-None : goal.returns-in-Ok-None
returns-in-Ok-None c = set_none ident_same ident_text (λ it. it.span) ident_item ident c.args.call (rw c.in-Ok-None.field-0-is at c.in-Ok-None.ensures)

pub returns-in-Err : goal.returns-in-Err
returns-in-Err c = set_fails ident_same ident_text (λ it. it.span) ident_item ident c.args.call c.in-Err.fail c.in-Err.ensures
