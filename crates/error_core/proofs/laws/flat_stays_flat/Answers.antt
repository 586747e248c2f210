use Rattle.error_core.proofs.ToldLemmas.{flat_stays}
use Rattle.error_core.proofs.laws.flat_stays_flat.Goals as goal

pub returns : goal.returns
returns c = flat_stays
