use Rattle.tok_core.proofs.OneReading.{Spells-same}
use Rattle.tok_core.proofs.laws.text_has_one_reading.Goals as goal

pub returns : goal.returns
returns c = Spells-same
