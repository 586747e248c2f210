use Rattle.machine_rows.specs.Table.{names}
use Rattle.machine_rows.proofs.table.named.Goals as goal

pub returns : goal.returns
unfolding names
returns c = c.looked_up.ensures
