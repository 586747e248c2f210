use Rattle.std.proofs.Common.{◌≡◌, take}
use Rattle.error_fault.specs.Kind.{set_of}
use Rattle.error_fault.proofs.names.name_set.Given as goal

abbrev pub invariant-loop-name : goal.invariant-loop-name
invariant-loop-name l = l.all.keys ≡ (set_of (take l.name-index l.names)).keys
