use Rattle.std.proofs.Common.{◌≡◌, ◌≤◌, ◌++◌, drop}
use Rattle.receive_core.specs.Steps.{faults_from}
use Rattle.receive_core.proofs.collect.collect_entries.Given as goal

abbrev pub invariant-loop-entry : goal.invariant-loop-entry
invariant-loop-entry l =
    (l.number ≤ l.entry-index)
    × (l.faults ++ faults_from l.names l.has_flat l.item_faults l.number (drop l.entry-index l.entries)
    ≡ l.initial.faults ++ faults_from l.names l.has_flat l.item_faults 0 l.entries)
