-- Answers without value: what the faults make that are put in a field.
use Rattle.std.proofs.Common.{◌≡◌, List, [], ◌∷◌, Result, Err, ap, sym, ◌∙◌, subst}
use Rattle.base_core.specs.declared.text.Text.{Text}
use Rattle.error_core.specs.Answers.{Answers, Fails}
use Rattle.error_core.specs.ErrorView.{first_leaf, more_leaves}
use Rattle.error_core.specs.declared.fail.Fail.{Fail}
use Rattle.error_core.specs.declared.fail.Fail.TheVariants as fails
use Rattle.error_fault.specs.declared.fault.Fault.{Fault}
use Rattle.error_fault.specs.declared.kind.FaultKind.TheVariants.{Custom}
use Rattle.error_fault.specs.Faults.{at}
use Rattle.error_fault.specs.Outcome.{Outcome, Value, Faults, faults_of, refused}
use Rattle.machine_value.specs.declared.value.Value.{Value as Datum}
use Rattle.machine_value.specs.Members.{no_value}

-- the faults are those of each outcome that the call may have
abbrev pub AreFaults : Fail → List Fault → Text → Type 0
AreFaults fail faults name = (outcome : Outcome Datum) → Fails fail outcome → faults ≡ at (faults_of outcome) name

not_both : {B : Type 0} (faults : List Fault) (fault : Fault) → faults ≡ [] → faults ≡ fault ∷ [] → B
not_both faults fault none one = cc

module _ {B : Type 0} (name : Text) (seen : Outcome Datum → B) (made : List Fault → B) (agree : (fault : Fault) (more : List Fault) → seen (Faults fault more) ≡ made (at (fault ∷ more) name)) where
  by_fail : (fail : Fail) (faults : List Fault) → AreFaults fail faults name → (outcome : Outcome Datum) → Fails fail outcome → made faults ≡ seen outcome
  by_fail (fails.Faults error) faults are outcome is =
      ap made (are outcome is ∙ ap (λ it. at (faults_of it) name) is)
      ∙ sym (agree (first_leaf error) (more_leaves error))
      ∙ ap seen (sym is)
  by_fail fails.NoMemory faults are outcome is =
      not_both faults _ (are (Value no_value) tt) (are (refused (Custom [])) tt)

  -- of an answer without value
  pub faulty : (answer : Result Datum Fail) (fail : Fail) (faults : List Fault) → answer ≡ Err fail → AreFaults fail faults name
      → (outcome : Outcome Datum) → Answers (λ it. it) answer outcome → made faults ≡ seen outcome
  faulty answer fail faults is are outcome answers =
      by_fail fail faults are outcome (subst (λ (it : Result Datum Fail). Answers (λ it. it) it outcome) is answers)
