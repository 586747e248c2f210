use Rattle.std.proofs.Common.{◌≡◌, ◌-◌, ◌≤◌, length}
use Rattle.meta_nested.specs.Values.{before_comma}
use Rattle.meta_nested.proofs.Commas.{split_at}
use Rattle.meta_nested.proofs.value.before_comma.Given as goal

abbrev pub invariant-loop-count : goal.invariant-loop-count
invariant-loop-count l = (l.count ≤ length l.trees) × (before_comma l.trees ≡ split_at l.count l.trees)

abbrev pub decreases-loop-count : goal.decreases-loop-count
decreases-loop-count l = length l.trees - l.count
