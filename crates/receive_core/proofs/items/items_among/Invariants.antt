use Rattle.std.proofs.Common.{◌≡◌, ◌++◌, drop}
use Rattle.meta_entries.specs.Entries.{items}
use Rattle.receive_core.proofs.items.items_among.Given as goal

abbrev pub invariant-loop-entry : goal.invariant-loop-entry
invariant-loop-entry l = l.items ++ items (drop l.entry-index l.entries) ≡ items l.entries
