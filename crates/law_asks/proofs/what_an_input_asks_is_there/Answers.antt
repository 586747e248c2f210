use Rattle.law_asks.proofs.Asks.{input_is_met}
use Rattle.law_asks.proofs.what_an_input_asks_is_there.Goals as goal

pub returns : goal.returns
returns c = input_is_met
