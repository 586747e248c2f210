use Rattle.std.proofs.Common.{◌∙◌, sym, ap, subst}
use Rattle.error_core.specs.Answers.{Answers}
use Rattle.meta_entries.specs.Entries.{items}
use Rattle.receive_core.specs.Meaning.{entry_meaning}
use Rattle.receive_core.proofs.MeaningLemmas.{reads_entries, reads_whole}
use Rattle.receive_core.proofs.receiver.Receiver.from_attributes.Goals as goal

pub finish_among-requires : goal.finish_among-requires
finish_among-requires g c =
    let T = g.Self.Receiver in
    let fresh = c.new-fields.ensures in
    reads_whole T.seen T.schema c.new-fields.result c.read.new.fields c.in_ok-found.found
    fresh.names fresh.item_faults fresh.missing fresh.has_flat fresh.flat_faults c.in_ok-found.ensures.0 c.in_ok-found.ensures.1
    c.as_slice-3.result.now
    (fresh.items ∙ c.as_slice-2.ensures ∙ c.in_ok-items.ensures ∙ ap items (c.as_slice.ensures ∙ sym c.as_slice-3.ensures))

pub returns : goal.returns
returns g c =
    let T = g.Self.Receiver in
    let fresh = c.new-fields.ensures in
    subst (λ entries. Answers T.seen c.finish_among.result (entry_meaning T.schema entries))
    (c.as_slice-3.ensures ∙ c.in_ok-entries.ensures)
    (reads_entries T.seen T.schema c.new-fields.result c.read.new.fields c.in_ok-found.found
    fresh.names fresh.item_faults fresh.missing fresh.has_flat fresh.flat_faults c.in_ok-found.ensures.0 c.in_ok-found.ensures.1
    c.as_slice-3.result.now
    (fresh.items ∙ c.as_slice-2.ensures ∙ c.in_ok-items.ensures ∙ ap items (c.as_slice.ensures ∙ sym c.as_slice-3.ensures))
    c.finish_among.result c.finish_among.ensures)
