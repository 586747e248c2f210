use Rattle.std.proofs.Common.{◌≡◌}
use Rattle.std.specs.List.{fold}
use Rattle.std.specs.Vec.Iter.{into_iter_items}
use Rattle.meta_reads.specs.Maps.{seen_entries}
use Rattle.meta_core.specs.Tables.{looked_up, put_entry, seen_table}
use Rattle.meta_core.proofs.rows.maps.hash.Given as goal

abbrev pub invariant-loop-key : goal.invariant-loop-key
invariant-loop-key g l =
    let k = g.K.KeyFromPath in
    fold (put_entry k.same) (seen_table k.same k.seen g.V.FromMeta.seen l.map.entries) (seen_entries k.seen g.V.FromMeta.seen (into_iter_items l.key-iterator))
    ≡ looked_up k.same (seen_entries k.seen g.V.FromMeta.seen (into_iter_items l.initial.key-iterator))
