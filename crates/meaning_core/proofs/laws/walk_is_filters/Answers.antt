use Rattle.meaning_core.proofs.Filters.{walk_is_filters}
use Rattle.meaning_core.proofs.laws.walk_is_filters.Goals as goal

pub returns : goal.returns
returns c = walk_is_filters
