use Rattle.std.proofs.Common.{◌≡◌, ◌++◌, drop, map}
use Rattle.meta_entries.specs.declared.entry.Entry.TheVariants as entry
use Rattle.receive_core.specs.Steps.{faults_from}
use Rattle.receive_core.proofs.collect.collect_items.Given as goal

abbrev pub invariant-loop-number : goal.invariant-loop-number
invariant-loop-number l =
    l.faults ++ faults_from l.names l.has_flat l.item_faults l.number (map entry.Item (drop l.number l.items))
    ≡ l.initial.faults ++ faults_from l.names l.has_flat l.item_faults 0 (map entry.Item l.items)
