use Rattle.std.proofs.Common.{◌≡◌, map, take}
use Rattle.error_core.specs.Syn.{syn_fault}
use Rattle.error_core.proofs.error.Error.into_syn.Given as goal

abbrev pub invariant-loop-fault : goal.invariant-loop-fault
invariant-loop-fault l = l.more ≡ map syn_fault (take l.fault-index l.others)
