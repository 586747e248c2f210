use Rattle.std.proofs.Common.{◌≡◌, ◌++◌, flat_map, drop}
use Rattle.std.specs.List.{filter_map}
use Rattle.error_fault.specs.Outcome.{faults_of, value_of}
use Rattle.error_core.specs.ErrorView.{held}
use Rattle.meta_core.proofs.rows.name_lists.collect_names.Given as goal

abbrev pub invariant-loop-item : goal.invariant-loop-item
invariant-loop-item g l = record {
  names : filter_map (λ item. value_of (g.T.Name.of_item item)) l.items
      ≡ l.names.items ++ filter_map (λ item. value_of (g.T.Name.of_item item)) (drop l.item-index l.items);
  faults : held l.initial.errors ++ flat_map (λ item. faults_of (g.T.Name.of_item item)) l.items
      ≡ held l.errors ++ flat_map (λ item. faults_of (g.T.Name.of_item item)) (drop l.item-index l.items);
}
