-- What the answer of reading options says of their faults.
use Rattle.std.proofs.Common.{◌≡◌, List, [], ◌∷◌, ap, subst, sym}
use Rattle.error_fault.specs.declared.fault.Fault.{Fault}
use Rattle.error_fault.specs.Outcome.{Value, settle}
use Rattle.error_core.specs.Answers.{Fails, refusal}
use Rattle.error_core.specs.ErrorView.{ErrorView, leaves}
use Rattle.error_core.specs.declared.fail.Fail.{Fail}
use Rattle.error_core.specs.declared.fail.Fail.TheVariants as told
use Rattle.node_core.specs.declared.derive.DeriveInput.{DeriveInput}
use Rattle.codegen_program.specs.declared.program.Derive.{Derive}
use Rattle.run_accepted.specs.Pairs.{rejected_with}
use Rattle.run_accepted.specs.Steps.{FailsWith, rejection}

module _ {A : Type 0} where
  no_faults : (faults : List Fault) (x y : A) → settle faults (Value x) ≡ Value y → (faults ≡ []) × (x ≡ y)
  no_faults [] x y is = (cc, cc)
  no_faults (fault ∷ more) x y is = cc

  all_faults : (faults : List Fault) (x : A) (error : ErrorView) → settle faults (Value x) ≡ refusal error → faults ≡ leaves error
  all_faults [] x error is = cc
  all_faults (fault ∷ more) x error is = cc

  -- what holds of the options that were read holds of those that the declaration has
  pub as_read : (faults : List Fault) (x y : A) → settle faults (Value x) ≡ Value y → (P : A → Type 0) → P y → (faults ≡ []) × P x
  as_read faults x y is P holds =
      let both = no_faults faults x y is in
      (both.0, subst P (sym both.1) holds)

  pub fails_with : (decl : DeriveInput) (derive : Derive) (faults : List Fault) (x : A) (fail : Fail)
      → Fails fail (settle faults (Value x)) → FailsWith decl derive faults (rejection decl derive fail)
  fails_with decl derive faults x (told.Faults error) is = ap (rejected_with decl derive) (all_faults faults x error is)
  fails_with decl derive faults x told.NoMemory is = tt
