use Rattle.meaning_core.proofs.Alone.{items_are_all}
use Rattle.meaning_core.proofs.laws.items_are_all.Goals as goal

pub returns : goal.returns
returns c = items_are_all
