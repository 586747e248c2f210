use Rattle.std.proofs.Common.{◌≡◌, ◌≤◌, ◌-◌, [], length, replicate}
use Rattle.machine_forms.proofs.units.empty_groups.Given as goal

abbrev pub invariant-fill : goal.invariant-fill
invariant-fill l = record { within : length l.groups ≤ l.count; empty : l.groups ≡ replicate (length l.groups) [] }

abbrev pub decreases-fill : goal.decreases-fill
decreases-fill l = l.count - length l.groups
