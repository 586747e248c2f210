use Rattle.machine_read.proofs.inside.+row_cell.Given as goal

abbrev pub decreases-row_cell : goal.decreases-row_cell
decreases-row_cell g l = l.room
