use Rattle.machine_places.specs.Rows.{outer_row_of}
use Rattle.machine_places.proofs.resolve.outer_row_among.Goals as goal

pub returns : goal.returns
unfolding outer_row_of
returns g c = c.outer_row_at.ensures
