use Rattle.body_core.proofs.ShapeLemmas.{tuples-are-wider}
use Rattle.body_core.proofs.laws.tuples_contain_newtypes.Goals as goal

pub returns : goal.returns
returns c = tuples-are-wider
