use Rattle.std.proofs.Common.{◌++◌, flat_map, ap, ◌∙◌}
use Rattle.error_fault.specs.Outcome.{faults_of}
use Rattle.error_core.specs.ErrorView.{held}
use Rattle.error_core.proofs.AnswersLemmas.{answers-every}
use Rattle.meta_core.proofs.rows.name_lists.read_names.Goals as goal

pub returns-in-Ok : goal.returns-in-Ok
returns-in-Ok g c =
    let faults = flat_map (λ item. faults_of (g.T.Name.of_item item)) c.args.items.now in
    answers-every (λ it. it.items) g.T.Name.of_item c.args.items.now c.finish_with.result _ c.in-Ok.names
    c.in-Ok.ensures.names
    (c.in-Ok.ensures.faults ∙ ap (λ first. held first ++ faults) c.accumulator-errors.ensures)
    c.finish_with.ensures.answer
