use Rattle.std.proofs.Common.{◌++◌, ◌∙◌, [], ap, subst}
use mathlib.Core.Path.{fun_ext}
use Rattle.std.specs.HashSet.{get}
use Rattle.error_fault.specs.Outcome.{Value, settle}
use Rattle.error_core.specs.Answers.{Answers}
use Rattle.error_core.specs.ErrorView.{held}
use Rattle.meta_core.specs.Sets.{kept_name, set_faults}
use Rattle.meta_reads.proofs.MapLemmas.{finished}
use Rattle.meta_core.proofs.rows.name_sets.read_set.Goals as goal

pub returns-in-Ok : goal.returns-in-Ok
returns-in-Ok g c =
    let eq = g.T.PartialEq.eq in
    let read = g.T.Name.of_item in
    let value = kept_name eq read c.args.items.now in
    let faults = set_faults eq (λ name. g.T.KeyFromPath.text (g.T.KeyFromPath.seen name)) g.T.Spanned.span_of read [] c.args.items.now in
    subst (λ faults. Answers (get eq) c.finish_with.result (settle faults (Value value)))
    (c.in-Ok.ensures.faults ∙ ap (λ errors. held errors ++ faults) c.accumulator-errors.ensures)
    (finished (get eq) c.finish_with.result (held c.collect_set.new.errors) c.in-Ok.names value (fun_ext c.in-Ok.ensures.names) c.finish_with.ensures.answer)
