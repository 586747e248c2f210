use Rattle.meta_core.proofs.TableLemmas.{sorted-more}
use Rattle.meta_core.proofs.rows.maps.sort.Goals as goal

pub loop-key-preserved-in_ok-insert : goal.loop-key-preserved-in_ok-insert
loop-key-preserved-in_ok-insert g c =
    let k = g.K.KeyFromPath in
    sorted-more g.K.Ord.cmp k.seen g.V.FromMeta.seen k.order g.met.K.SortedKey.order_is _ _ _ _ c.in-Some.key c.in-Some.value _
    c.in_ok-insert.ensures.entries c.in-Some.ensures.steps.0 c.loop-key.invariant

pub loop-key-preserved : goal.loop-key-preserved
loop-key-preserved g c =
    let k = g.K.KeyFromPath in
    sorted-more g.K.Ord.cmp k.seen g.V.FromMeta.seen k.order g.met.K.SortedKey.order_is _ _ _ _ c.in-Some.key c.in-Some.value _
    c.in_ok-insert.ensures.entries c.in-Some.ensures.steps.0 c.loop-key.invariant
