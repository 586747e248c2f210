use Rattle.std.proofs.Common.{◌≡◌, ◌++◌}
use Rattle.std.specs.Vec.Iter.{into_iter_items}
use Rattle.machine_leaf.specs.Maps.{seen_entries}
use Rattle.machine_read.specs.Entries.{texts}
use Rattle.machine_read.proofs.shown.under_texts.Given as goal

abbrev pub invariant-loop-key : goal.invariant-loop-key
invariant-loop-key g l =
    let k = g.K.KeyFromPath in
    texts k.text (seen_entries k.seen (λ value. value) (into_iter_items l.initial.key-iterator))
    ≡ l.them ++ texts k.text (seen_entries k.seen (λ value. value) (into_iter_items l.key-iterator))
