-- An answer at a place has the outcome's faults at that place.
use Rattle.std.proofs.Common.{ap, ◌∙◌, Result, Ok, Err}
use Rattle.tok_types.specs.declared.span.Span.{Span}
use Rattle.error_fault.specs.Outcome.{Outcome, with_span}
use Rattle.error_core.proofs.AnswersLemmas.{refusal_spanned}
use Rattle.error_core.specs.Answers.{Answers}
use Rattle.error_core.specs.declared.fail.Fail.{Fail}
use Rattle.error_core.specs.declared.fail.Fail.TheVariants as fails
use Rattle.meta_nested.specs.Places.{answer_at}

pub answers_at : {X A : Type 0} (seen : X → A) (answer : Result X Fail) (outcome : Outcome A) (span : Span)
    → Answers seen answer outcome → Answers seen (answer_at answer span) (with_span span outcome)
answers_at seen (Ok value) outcome span is = ap (with_span span) is
answers_at seen (Err (fails.Faults error)) outcome span is = ap (with_span span) is ∙ refusal_spanned error span
answers_at seen (Err fails.NoMemory) outcome span is = tt
