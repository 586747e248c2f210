use Rattle.machine_places.specs.Table.{names}
use Rattle.machine_places.proofs.table.named.Goals as goal

pub returns : goal.returns
unfolding names
returns c = c.looked_up.ensures
