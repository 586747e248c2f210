use Rattle.std.proofs.Common.{◌≡◌, ◌++◌, length}
use Rattle.error_core.specs.Walk.{closed}
use Rattle.error_core.specs.Written.{endings}
use Rattle.error_core.proofs.text.end_roots.Given as goal

abbrev pub invariant-ends : goal.invariant-ends
invariant-ends l =
    record {
      text : l.out ++ endings l.at l.roots ≡ l.initial.out ++ endings l.at l.initial.roots;
      roots : closed l.at l.roots ≡ closed l.at l.initial.roots;
    }

abbrev pub decreases-ends : goal.decreases-ends
decreases-ends l = length l.roots
