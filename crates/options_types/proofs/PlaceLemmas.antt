-- A value that is read with its place.
use Rattle.std.proofs.Common.{ap, Result, Ok, Err}
use Rattle.tok_types.specs.declared.span.Span.{Span}
use Rattle.error_fault.specs.Outcome.{Outcome, on_value, with_span}
use Rattle.error_core.specs.Answers.{Answers}
use Rattle.error_core.specs.declared.fail.Fail.{Fail}
use Rattle.error_core.specs.declared.fail.Fail.TheVariants as fails
use Rattle.util_core.proofs.PlaceLemmas.{answers_at}
use Rattle.util_core.specs.Places.{answer_at}
use Rattle.options_types.specs.SpannedValue.{placed, placed_answer, seen_spanned}

placed_answers : {X A : Type 0} (seen : X → A) (answer : Result X Fail) (outcome : Outcome A) (span : Span)
    → Answers seen answer outcome → Answers (seen_spanned seen) (placed_answer answer span) (on_value (placed span) outcome)
placed_answers seen (Ok value) outcome span is = ap (on_value (placed span)) is
placed_answers seen (Err (fails.Faults error)) outcome span is = ap (on_value (placed span)) is
placed_answers seen (Err fails.NoMemory) outcome span is = tt

-- an answer that is put at a place has the outcome that is put there
pub answers_placed : {X A : Type 0} (seen : X → A) (answer : Result X Fail) (outcome : Outcome A) (span : Span)
    → Answers seen answer outcome
    → Answers (seen_spanned seen) (placed_answer (answer_at answer span) span) (on_value (placed span) (with_span span outcome))
answers_placed seen answer outcome span is =
    placed_answers seen (answer_at answer span) (with_span span outcome) span (answers_at seen answer outcome span is)
