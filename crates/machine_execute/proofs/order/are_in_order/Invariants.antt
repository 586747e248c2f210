use Rattle.std.proofs.Common.{◌≡◌, drop}
use Rattle.machine_execute.specs.Order.{are_in_order, numbers, rises_from}
use Rattle.machine_execute.proofs.order.are_in_order.Given as goal

abbrev pub invariant-loop-unit : goal.invariant-loop-unit
invariant-loop-unit l = rises_from l.last (numbers (drop l.unit-index l.units)) ≡ are_in_order l.units
