use Rattle.std.proofs.Common.{◌≡◌}
use Rattle.std.specs.List.{fold}
use Rattle.std.specs.BTreeMap.{insert_entry}
use Rattle.std.specs.Vec.Iter.{into_iter_items}
use Rattle.meta_reads.specs.Maps.{seen_entries, sorted}
use Rattle.meta_core.proofs.rows.maps.sort.Given as goal

abbrev pub invariant-loop-key : goal.invariant-loop-key
invariant-loop-key g l =
    let k = g.K.KeyFromPath in
    fold (λ before entry. insert_entry k.order before entry.0 entry.1) (seen_entries k.seen g.V.FromMeta.seen l.map.entries)
    (seen_entries k.seen g.V.FromMeta.seen (into_iter_items l.key-iterator))
    ≡ sorted k.order (seen_entries k.seen g.V.FromMeta.seen (into_iter_items l.initial.key-iterator))
