use Rattle.std.proofs.Common.{◌++◌, ◌∙◌, [], ap, subst}
use Rattle.error_fault.specs.Outcome.{Value, settle}
use Rattle.error_core.specs.Answers.{Answers}
use Rattle.error_core.specs.ErrorView.{held}
use Rattle.meta_reads.specs.Maps.{entries_of, map_faults, seen_entries}
use Rattle.meta_reads.proofs.MapLemmas.{finished}
use Rattle.meta_reads.proofs.entries.read_entries.Goals as goal

pub returns-in-Ok : goal.returns-in-Ok
returns-in-Ok g c =
    let k = g.K.KeyFromPath in
    let see = g.R.Reader.seen in
    let cells = g.R.Reader.cells c.args.inner.now in
    let value = entries_of k.key cells c.args.items.now in
    let faults = map_faults k.same k.text k.key cells [] c.args.items.now in
    subst (λ faults. Answers (λ it. seen_entries k.seen see it.items) c.finish_with.result (settle faults (Value value)))
    (c.in-Ok.ensures.faults ∙ ap (λ errors. held errors ++ faults) c.accumulator-errors.ensures)
    (finished (λ it. seen_entries k.seen see it.items) c.finish_with.result (held c.collect_entries.new.errors) c.in-Ok.entries value c.in-Ok.ensures.entries c.finish_with.ensures.answer)
