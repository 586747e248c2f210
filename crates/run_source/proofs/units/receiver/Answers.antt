use Rattle.std.proofs.Common.{sym}
use Rattle.std.proofs.lemmas.Iterator.Adapters.{position_from-zero}
use Rattle.run_source.specs.Receiver.{is_receiver}
use Rattle.run_source.proofs.units.receiver.Goals as goal

pub loop-number-init : goal.loop-number-init
loop-number-init c = sym (position_from-zero (is_receiver c.len-count.result) c.as_slice-unit-items.result.now)
