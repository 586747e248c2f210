use Rattle.law_cells.proofs.Leaves.{leaves_read}
use Rattle.law_cells.proofs.what_a_type_reads_fits_it.Goals as goal

pub returns : goal.returns
returns c = leaves_read
