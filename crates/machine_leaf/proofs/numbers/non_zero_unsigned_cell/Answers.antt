use Rattle.std.proofs.Common.{refl}
use Rattle.machine_cells.specs.Integers.{non_zero_unsigned_cells}
use Rattle.machine_cells.specs.Values.{natural}
use Rattle.machine_leaf.proofs.numbers.non_zero_unsigned_cell.Goals as goal

pub returns : goal.returns
returns c = c.shown_answer.ensures natural (λ it. refl) (non_zero_unsigned_cells c.args.most) c.args.call c.read_non_zero_unsigned.ensures.cell
