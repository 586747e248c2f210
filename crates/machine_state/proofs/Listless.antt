-- Lists that are none: their faults are put behind those before.
use Rattle.std.proofs.Common.{◌≡◌, List, [], ◌∷◌, ap, sym, ◌∙◌}
use Rattle.error_core.specs.Answers.{Fails}
use Rattle.error_core.specs.declared.fail.Fail.{Fail}
use Rattle.error_core.specs.declared.fail.Fail.TheVariants as fails
use Rattle.error_fault.specs.declared.fault.Fault.{Fault}
use Rattle.error_fault.specs.declared.kind.FaultKind.TheVariants.{Custom}
use Rattle.error_fault.specs.Outcome.{Outcome, Value, faults_of, refused}
use Rattle.machine_read.specs.NestedMeta.{NestedMeta}
use Rattle.machine_read.specs.Progress.{Progress}
use Rattle.machine_read.specs.Attributes.{on_items, refuse}

not_both : {B : Type 0} (faults : List Fault) (fault : Fault) → faults ≡ [] → faults ≡ fault ∷ [] → B
not_both faults fault none one = cc

pub listless : (read : List NestedMeta → Progress → Progress) (before : Progress) (fail : Fail) (faults : List Fault)
    → ((outcome : Outcome (List NestedMeta)) → Fails fail outcome → faults ≡ faults_of outcome)
    → (outcome : Outcome (List NestedMeta)) → Fails fail outcome → refuse faults before ≡ on_items read outcome before
listless read before (fails.Faults error) faults are outcome is =
    ap (λ it. refuse it before) (are outcome is ∙ ap faults_of is) ∙ ap (λ it. on_items read it before) (sym is)
listless read before fails.NoMemory faults are outcome is =
    not_both faults _ (are (Value []) tt) (are (refused (Custom [])) tt)
