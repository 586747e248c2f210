use Rattle.law_asks.proofs.Asks.{items_are_met}
use Rattle.law_asks.proofs.what_items_ask_is_there.Goals as goal

pub returns : goal.returns
returns c = items_are_met
