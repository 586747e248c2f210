use Rattle.std.proofs.Common.{◌∙◌}
use Rattle.receive_core.proofs.MeaningLemmas.{reads_names}
use Rattle.receive_core.proofs.receiver.Receiver.names.Goals as goal

pub returns : goal.returns
returns g c =
    let T = g.Self.Receiver in
    let fresh = c.new-fields.ensures in
    c.into_names.ensures
    ∙ reads_names T.seen T.schema c.new-fields.result c.read.new.fields c.in_ok-_found._found
    fresh.names fresh.item_faults fresh.missing fresh.has_flat fresh.flat_faults c.in_ok-_found.ensures.0 c.in_ok-_found.ensures.1
