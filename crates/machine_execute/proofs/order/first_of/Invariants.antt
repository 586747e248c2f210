use Rattle.std.proofs.Common.{◌≡◌, ◌+◌, ◌<◌, ◌≤◌, ℕ, true, length}
use Rattle.machine_execute.specs.Order.{number_at}
use Rattle.machine_execute.proofs.order.first_of.Given as goal

abbrev pub invariant-loop-size : goal.invariant-loop-size
invariant-loop-size l = record {
  within : l.low + l.size ≤ length l.units;
  ordered : 0 < l.size → l.in_order ≡ true;
  before : (i : ℕ) → i < l.low → number_at l.units i < l.number;
  behind : l.in_order ≡ true → (i : ℕ) → l.low + l.size ≤ i → i < length l.units → l.number ≤ number_at l.units i;
}

abbrev pub decreases-loop-size : goal.decreases-loop-size
decreases-loop-size l = l.size
