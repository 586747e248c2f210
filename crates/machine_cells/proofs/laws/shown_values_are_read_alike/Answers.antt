use Rattle.machine_cells.proofs.Showing.{shows}
use Rattle.machine_cells.proofs.laws.shown_values_are_read_alike.Goals as goal

pub returns : goal.returns
returns g c = λ show. shows show g.T.FromMeta.cells
