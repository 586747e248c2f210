use Rattle.std.proofs.Common.{◌≡◌, List, [], ◌++◌, drop}
use Rattle.error_core.specs.ErrorView.{held}
use Rattle.meta_reads.specs.KnownKeys.{Knows}
use Rattle.meta_reads.specs.Maps.{entries_of, map_faults, seen_entries}
use Rattle.meta_reads.proofs.entries.collect_entries.Given as goal

abbrev pub invariant-loop-item : goal.invariant-loop-item
invariant-loop-item g l =
    let k = g.K.KeyFromPath in
    let see = g.R.Reader.seen in
    let cells = g.R.Reader.cells l.inner in
    (entries_of k.key cells l.items ≡ seen_entries k.seen see l.entries.items ++ entries_of k.key cells (drop l.item-index l.items)) ×
    ((before : List k.Seen) × Knows k.same k.seen (g.S.KeySet.has l.keys) before ×
    (held l.initial.errors ++ map_faults k.same k.text k.key cells [] l.items
    ≡ held l.errors ++ map_faults k.same k.text k.key cells before (drop l.item-index l.items)))
