use Rattle.std.proofs.Common.{◌≡◌, ◌++◌, map, ap, ◌∙◌, subst}
use Rattle.error_fault.specs.Outcome.{Value, settle}
use Rattle.error_core.specs.Answers.{Answers}
use Rattle.error_core.specs.ErrorView.{One, held}
use Rattle.meta_reads.specs.Words.{unexpected_item}
use Rattle.meta_reads.proofs.Faults.{held-ones}
use Rattle.meta_reads.proofs.words.no_items.Goals as goal

pub returns-in-Ok : goal.returns-in-Ok
returns-in-Ok c =
    let errors = map (λ item. One (unexpected_item item)) c.args.items.now in
    let pushed : c.collect_unexpected.new.errors ≡ errors = c.in-Ok.ensures ∙ ap (λ first. first ++ errors) c.accumulator-errors.ensures in
    subst (λ faults. Answers (λ it. it) c.finish.result (settle faults (Value tt)))
    (ap held pushed ∙ held-ones unexpected_item c.args.items.now)
    c.finish.ensures.answer
