-- What an accumulator holds behind a call that answers faults and leaves something behind.
use Rattle.std.proofs.Common.{◌≡◌, ◌∙◌, List, [], ◌∷◌, ◌++◌, ap, sym, append-nil, Option, Result, Ok, Err}
use Rattle.error_fault.specs.declared.fault.Fault.{Fault}
use Rattle.error_fault.specs.Outcome.{Outcome, Faults, faults_of}
use Rattle.error_core.proofs.AnswersLemmas.{held-push}
use Rattle.error_core.specs.Answers.{Handles}
use Rattle.error_core.specs.ErrorView.{ErrorView, held, leaves}
use Rattle.error_core.specs.declared.fail.Fail.{Fail}
use Rattle.error_core.specs.declared.fail.Fail.TheVariants as fails
use Rattle.options_rows.specs.Does.{Does, Takes}
use Rattle.options_rows.specs.Members.{after_outcome}

-- one error more
pub pushed : (new old : List ErrorView) (error : ErrorView) → new ≡ old ++ error ∷ [] → held new ≡ held old ++ leaves error
pushed new old error is = ap held is ∙ held-push old error

held-same : (new old : List ErrorView) (faults : List Fault) → faults ≡ [] → new ≡ old → held new ≡ held old ++ faults
held-same new old faults none is = ap held is ∙ sym (append-nil (held old)) ∙ ap (λ xs. held old ++ xs) (sym none)

-- what the call leaves behind, and its faults
pub does_handled : {X S : Type 0} (answer : Result X Fail) (faults : List Fault) (left start end : S) (new old : List ErrorView) (found : Option X)
    → Does answer faults left start end → Handles answer old (Ok found) new → (end ≡ left) × (held new ≡ held old ++ faults)
does_handled (Ok done) faults left start end new old found does takes = (does.1, held-same new old faults does.0 takes.1)
does_handled (Err (fails.Faults error)) faults left start end new old found does takes =
    (does.1, pushed new old error takes.1 ∙ ap (λ xs. held old ++ xs) (sym does.0))
does_handled (Err fails.NoMemory) faults left start end new old found does takes =
    let never : ⊥ = cc (takes.0) in
    absurd never

-- what the call leaves of what was lent to it, and its faults
pub takes_handled : {X S : Type 0} (answer : Result X Fail) (outcome : Outcome S) (end start : S) (new old : List ErrorView) (found : Option X)
    → Takes answer outcome start end → Handles answer old (Ok found) new
    → (end ≡ after_outcome outcome start) × (held new ≡ held old ++ faults_of outcome)
takes_handled (Ok done) outcome end start new old found is takes = (
  sym (ap (λ o. after_outcome o start) is),
  held-same new old (faults_of outcome) (ap faults_of is) takes.1,
)
takes_handled (Err (fails.Faults error)) outcome end start new old found is takes = (
  is.1 ∙ sym (ap (λ o. after_outcome o start) is.0),
  pushed new old error takes.1 ∙ ap (λ xs. held old ++ xs) (sym (ap faults_of is.0)),
)
takes_handled (Err fails.NoMemory) outcome end start new old found is takes =
    let never : ⊥ = cc (takes.0) in
    absurd never
