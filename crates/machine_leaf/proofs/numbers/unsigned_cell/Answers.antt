use Rattle.std.proofs.Common.{refl}
use Rattle.machine_cells.specs.Integers.{unsigned_cells}
use Rattle.machine_cells.specs.Values.{natural}
use Rattle.machine_leaf.proofs.numbers.unsigned_cell.Goals as goal

pub returns : goal.returns
returns c = c.shown_answer.ensures natural (λ it. refl) (unsigned_cells c.args.most) c.args.call c.read_unsigned.ensures
