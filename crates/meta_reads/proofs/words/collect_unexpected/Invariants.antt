use Rattle.std.proofs.Common.{◌≡◌, ◌++◌, map, take}
use Rattle.error_core.specs.ErrorView.{One}
use Rattle.meta_reads.specs.Words.{unexpected_item}
use Rattle.meta_reads.proofs.words.collect_unexpected.Given as goal

abbrev pub invariant-loop-item : goal.invariant-loop-item
invariant-loop-item l = l.errors ≡ l.initial.errors ++ map (λ item. One (unexpected_item item)) (take l.item-index l.items)
