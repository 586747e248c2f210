use Rattle.std.proofs.Common.{◌≡◌, ◌++◌}
use Rattle.error_fault.proofs.names.clone_names.Given as goal

abbrev pub invariant-loop-name : goal.invariant-loop-name
invariant-loop-name l = l.copy.keys ++ l.name-iterator ≡ l.names.keys
