use Rattle.std.proofs.Common.{◌≡◌, length}
use Rattle.error_core.specs.Walk.{closed}
use Rattle.error_core.proofs.roots.Roots.close.Given as goal

abbrev pub invariant-loop-self : goal.invariant-loop-self
invariant-loop-self l = closed l.at l.self ≡ closed l.at l.initial.self

abbrev pub decreases-loop-self : goal.decreases-loop-self
decreases-loop-self l = length l.self
