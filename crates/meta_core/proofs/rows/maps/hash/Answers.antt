use Rattle.std.proofs.Common.{ap}
use Rattle.std.specs.List.{fold}
use Rattle.std.specs.Vec.Iter.{into_iter_items}
use Rattle.meta_reads.specs.Maps.{seen_entries}
use Rattle.meta_core.specs.Tables.{put_entry, seen_table}
use Rattle.meta_core.proofs.TableLemmas.{table-more}
use Rattle.meta_core.proofs.rows.maps.hash.Goals as goal

pub loop-key-init : goal.loop-key-init
loop-key-init g c =
    let k = g.K.KeyFromPath in
    let v = g.V.FromMeta in
    ap (λ entries. fold (put_entry k.same) (seen_table k.same k.seen v.seen entries) (seen_entries k.seen v.seen (into_iter_items c.into_iter-key-iterator.result))) c.new-map.ensures.empty

pub loop-key-preserved-in_ok-insert : goal.loop-key-preserved-in_ok-insert
loop-key-preserved-in_ok-insert g c =
    let k = g.K.KeyFromPath in
    table-more g.K.PartialEq.eq k.same k.seen g.V.FromMeta.seen g.met.K.MapKey.same_laws g.met.K.MapKey.same_is c.loop-key.map c.insert.new.self c.in-Some.key c.in-Some.value
    c.in_ok-insert.ensures.unique _ c.in_ok-insert.ensures.old c.in_ok-insert.ensures.entries _ _ _ c.in-Some.ensures.steps.0 c.loop-key.invariant

pub loop-key-preserved : goal.loop-key-preserved
loop-key-preserved g c =
    let k = g.K.KeyFromPath in
    table-more g.K.PartialEq.eq k.same k.seen g.V.FromMeta.seen g.met.K.MapKey.same_laws g.met.K.MapKey.same_is c.loop-key.map c.insert.new.self c.in-Some.key c.in-Some.value
    c.in_ok-insert.ensures.unique _ c.in_ok-insert.ensures.old c.in_ok-insert.ensures.entries _ _ _ c.in-Some.ensures.steps.0 c.loop-key.invariant
