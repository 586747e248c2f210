use Rattle.std.proofs.Common.{◌≡◌, ◌++◌, drop, flat_map}
use Rattle.run_accepted.specs.Derives.{entry_derives}
use Rattle.run_accepted.proofs.derives.derives_among.Given as goal

abbrev pub invariant-loop-entry : goal.invariant-loop-entry
invariant-loop-entry l = l.derives ++ flat_map entry_derives (drop l.entry-index l.entries) ≡ flat_map entry_derives l.entries
