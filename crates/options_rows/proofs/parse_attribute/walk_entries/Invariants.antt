use Rattle.std.proofs.Common.{◌≡◌, ◌++◌, drop, map, take}
use Rattle.error_core.specs.ErrorView.{held}
use Rattle.options_rows.specs.Entries.{option_item}
use Rattle.options_rows.specs.Walk.{walk_faults, walk_state}
use Rattle.options_rows.proofs.parse_attribute.walk_entries.Given as goal

abbrev pub invariant-loop-entry : goal.invariant-loop-entry
invariant-loop-entry g l =
    let options = g.T.ParseAttribute.options l.table in
    let faults = g.T.ParseAttribute.faults l.table in
    let all = map option_item l.entries in
    let rest = map option_item (drop l.entry-index l.entries) in
    record {
      left : l.target ≡ walk_state options faults l.initial.target (take l.entry-index all);
      faults : held l.errors ++ walk_faults options faults l.target rest ≡ held l.initial.errors ++ walk_faults options faults l.initial.target all;
    }
