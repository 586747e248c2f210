use Rattle.std.proofs.Common.{◌≡◌, ◌++◌, map}
use Rattle.error_core.specs.ErrorView.{held}
use Rattle.options_core.proofs.outer_from.push_not_forwarded.Given as goal
use Rattle.options_core.specs.Receivers.{not_forwarded}

abbrev pub invariant-loop-path : goal.invariant-loop-path
invariant-loop-path l =
    held l.errors ++ map not_forwarded l.path-iterator ≡ held l.initial.errors ++ map not_forwarded l.initial.path-iterator
