use Rattle.std.proofs.Common.{refl}
use Rattle.machine_cells.specs.Integers.{non_zero_signed_cells}
use Rattle.machine_cells.specs.Values.{integer}
use Rattle.machine_leaf.proofs.numbers.non_zero_signed_cell.Goals as goal

pub returns : goal.returns
returns c = c.shown_answer.ensures integer (λ it. refl) (non_zero_signed_cells c.args.half) c.args.call c.read_non_zero_signed.ensures.cell
