use Rattle.receive_core.proofs.MeaningLemmas.{reads_items_whole, reads_meaning}
use Rattle.receive_core.proofs.receiver.Receiver.from_items.Goals as goal

pub finish-requires : goal.finish-requires
finish-requires g c =
    let T = g.Self.Receiver in
    let fresh = c.new-fields.ensures in
    reads_items_whole T.seen T.schema c.new-fields.result c.read.new.fields c.in_ok-found.found
    fresh.names fresh.item_faults fresh.missing fresh.has_flat fresh.flat_faults c.in_ok-found.ensures.0 c.in_ok-found.ensures.1

pub returns : goal.returns
returns g c =
    let T = g.Self.Receiver in
    let fresh = c.new-fields.ensures in
    reads_meaning T.seen T.schema c.new-fields.result c.read.new.fields c.in_ok-found.found
    fresh.names fresh.item_faults fresh.missing fresh.has_flat fresh.flat_faults c.in_ok-found.ensures.0 c.in_ok-found.ensures.1
    c.args.items.now c.finish.result fresh.items c.finish.ensures
