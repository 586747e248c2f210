use Rattle.std.proofs.Common.{◌≡◌, ◌++◌, flat_map, drop}
use Rattle.std.specs.List.{filter_map}
use Rattle.error_fault.specs.Outcome.{faults_of, value_of}
use Rattle.error_core.specs.ErrorView.{held}
use Rattle.options_types.specs.Shapes.{variant_word}
use Rattle.options_types.proofs.variant_shapes.collect_words.Given as goal

abbrev pub invariant-loop-item : goal.invariant-loop-item
invariant-loop-item l = record {
  words : filter_map (λ item. value_of (variant_word item)) l.items
      ≡ l.words ++ filter_map (λ item. value_of (variant_word item)) (drop l.item-index l.items);
  faults : held l.initial.errors ++ flat_map (λ item. faults_of (variant_word item)) l.items
      ≡ held l.errors ++ flat_map (λ item. faults_of (variant_word item)) (drop l.item-index l.items);
}
