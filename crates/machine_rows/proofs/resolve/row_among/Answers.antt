use Rattle.machine_rows.specs.Rows.{row_of}
use Rattle.machine_rows.proofs.resolve.row_among.Goals as goal

pub returns : goal.returns
unfolding row_of
returns g c = c.row_at.ensures
