use Rattle.std.proofs.Common.{refl}
use Rattle.machine_cells.specs.Integers.{signed_cells}
use Rattle.machine_cells.specs.Values.{integer}
use Rattle.machine_leaf.proofs.numbers.signed_cell.Goals as goal

pub returns : goal.returns
returns c = c.shown_answer.ensures integer (λ it. refl) (signed_cells c.args.half) c.args.call c.read_signed.ensures
