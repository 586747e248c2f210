use Rattle.std.proofs.Common.{◌≡◌, drop, position}
use Rattle.std.specs.List.{position_from}
use Rattle.run_source.specs.Receiver.{is_receiver}
use Rattle.run_source.proofs.units.receiver.Given as goal

abbrev pub invariant-loop-number : goal.invariant-loop-number
invariant-loop-number l =
    position_from (is_receiver l.count) l.number (drop l.number l.unit-items) ≡ position (is_receiver l.count) l.unit-items
