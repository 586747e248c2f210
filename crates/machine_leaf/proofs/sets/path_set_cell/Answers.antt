use Rattle.node_make.specs.PathText.{path_text}
use Rattle.node_span.specs.Spanned.{path_span}
use Rattle.machine_cells.specs.Leaves.{plain}
use Rattle.machine_cells.specs.Cells.{cell_at}
use Rattle.machine_cells.specs.Keys.{path_same}
use Rattle.machine_cells.specs.Lists.{path_item, names_cells}
use Rattle.machine_leaf.proofs.Names.{set_fails, set_found, set_none}
use Rattle.machine_leaf.proofs.sets.path_set_cell.Goals as goal

pub returns-in-Ok-Some : goal.returns-in-Ok-Some
returns-in-Ok-Some c =
    rw (set_found path_same path_text path_span path_item plain c.args.call _ (rw c.in-Ok-Some.field-0-is at c.in-Ok-Some.ensures))
    (c.names_answer.ensures (cell_at (names_cells path_item) c.args.call) c.cell-in-Ok-Some.ensures)

pub returns-in-Ok-None : goal.returns-in-Ok-None
returns-in-Ok-None c = set_none path_same path_text path_span path_item plain c.args.call (rw c.in-Ok-None.field-0-is at c.in-Ok-None.ensures)

pub returns-in-Err : goal.returns-in-Err
returns-in-Err c = set_fails path_same path_text path_span path_item plain c.args.call c.in-Err.fail c.in-Err.ensures
