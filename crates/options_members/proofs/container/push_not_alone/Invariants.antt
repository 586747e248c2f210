use Rattle.std.proofs.Common.{◌≡◌, ◌++◌, drop, map}
use Rattle.error_core.specs.ErrorView.{held}
use Rattle.options_members.proofs.container.push_not_alone.Given as goal
use Rattle.options_members.specs.Body.{not_alone}

abbrev pub invariant-loop-span : goal.invariant-loop-span
invariant-loop-span l = held l.errors ++ map not_alone (drop l.span-index l.spans) ≡ held l.initial.errors ++ map not_alone l.spans
