use Rattle.std.proofs.Common.{◌≡◌, ◌++◌, drop, flat_map, map}
use Rattle.options_rows.specs.Entries.{items, option_item}
use Rattle.run_accepted.specs.Unbuilt.{option_places}
use Rattle.run_accepted.proofs.options.push_entries.Given as goal

abbrev pub invariant-loop-entry : goal.invariant-loop-entry
invariant-loop-entry l = l.spans ++ flat_map option_places (items (map option_item (drop l.entry-index l.entries)))
    ≡ l.initial.spans ++ flat_map option_places (items (map option_item l.entries))
