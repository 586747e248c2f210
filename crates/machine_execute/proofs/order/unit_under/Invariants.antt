use Rattle.std.proofs.Common.{◌≡◌, drop}
use Rattle.machine_read.specs.Machine.{unit_under}
use Rattle.machine_execute.proofs.order.unit_under.Given as goal

abbrev pub invariant-loop-at : goal.invariant-loop-at
invariant-loop-at l = unit_under l.units l.number l.derive ≡ unit_under (drop l.at l.units) l.number l.derive
