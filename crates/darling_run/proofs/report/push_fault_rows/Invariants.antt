use Rattle.std.proofs.Common.{◌≡◌, ◌++◌, flat_map, take}
use Rattle.darling_run.specs.Report.{fault_row}
use Rattle.darling_run.proofs.report.push_fault_rows.Given as goal

abbrev pub invariant-loop-fault : goal.invariant-loop-fault
invariant-loop-fault l = l.out ≡ l.initial.out ++ flat_map fault_row (take l.fault-index l.faults)
