use Rattle.std.proofs.Common.{◌++◌, flat_map, ap, ◌∙◌}
use Rattle.error_fault.specs.Outcome.{faults_of}
use Rattle.error_core.specs.ErrorView.{held}
use Rattle.error_core.proofs.AnswersLemmas.{answers-every}
use Rattle.options_types.specs.Shapes.{variant_word}
use Rattle.options_types.proofs.variant_shapes.read_words.Goals as goal

pub returns-in-Ok : goal.returns-in-Ok
returns-in-Ok c =
    let faults = flat_map (λ item. faults_of (variant_word item)) c.args.items.now in
    answers-every (λ it. it) variant_word c.args.items.now c.finish_with.result _ c.in-Ok.words
    c.in-Ok.ensures.words
    (c.in-Ok.ensures.faults ∙ ap (λ first. held first ++ faults) c.accumulator-errors.ensures)
    c.finish_with.ensures.answer
