use Rattle.std.proofs.Common.{◌≡◌, ◌++◌, codes, flat_map, take}
use Rattle.error_fault.specs.FaultText.{fault_line}
use Rattle.run_text.proofs.leaves.push_fault_lines.Given as goal

abbrev pub invariant-loop-fault : goal.invariant-loop-fault
invariant-loop-fault l =
    l.out ≡ l.initial.out ++ flat_map (λ fault. codes "; " ++ fault_line fault) (take l.fault-index l.others)
