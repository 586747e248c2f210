-- Pairs whose options have no faults, and show no form without a program.
use Rattle.std.proofs.Common.{◌≡◌, ℕ, suc, List, [], ◌∷◌, map, Option, None, refl}
use Rattle.std.specs.Prelude.{flat_map}
use Rattle.std.specs.List.{AllByRecursion}
use Rattle.std.specs.Option.{option_or}
use Rattle.node_core.specs.declared.derive.DeriveInput.{DeriveInput}
use Rattle.error_fault.specs.declared.fault.Fault.{Fault}
use Rattle.codegen_program.specs.declared.program.Derive.{Derive}
use Rattle.codegen_core.specs.declared.form.Unsupported.{Unsupported}
use Rattle.machine_forms.specs.Forms.{declared_forms}
use Rattle.run_accepted.specs.Derives.{derives_of}
use Rattle.run_accepted.specs.Forms.{decl_forms, derived_forms, first_form, forms_under}
use Rattle.run_accepted.specs.Pairs.{Pair, faults_under, pair, pairs_from, pairs_of, rejected, rejected_with}
use Rattle.run_accepted.specs.Values.{Rules}
use Rattle.run_accepted.specs.declared.derives.Derived.{Derived}
use Rattle.run_accepted.specs.declared.rejected.Rejected.{Rejected}
use Rattle.run_accepted.proofs.PlaceLemmas.{none_first}
use Rattle.law_options.proofs.Owns.{all-append}
use Rattle.law_options.proofs.Shapes.{none-left, none-right}

pub none_with : (decl : DeriveInput) (derive : Derive) (faults : List Fault) (later : Option Rejected) → option_or (rejected_with decl derive faults) later ≡ None
    → (faults ≡ []) × (later ≡ None)
none_with decl derive [] later none = (refl, none)
none_with decl derive (fault ∷ more) later none = absurd cc

module _ (rules : Rules) where
  -- nothing is wrong with the options of a pair
  abbrev pub IsFaultless : Pair → Type 0
  IsFaultless it = faults_under rules it.decl it.derive ≡ []

  -- they show no form without a program
  abbrev pub IsSupported : Pair → Type 0
  IsSupported it = forms_under rules it.decl it.derive ≡ []

  pub each_faultless : (pairs : List Pair) → rejected rules pairs ≡ None → AllByRecursion IsFaultless pairs
  each_faultless [] none = tt
  each_faultless (it ∷ pairs) none =
      let both = none_with it.decl it.derive (faults_under rules it.decl it.derive) (rejected rules pairs) none in
      (both.0, each_faultless pairs both.1)

  under_each : (number : ℕ) (decl : DeriveInput) (derives : List Derived) → flat_map (derived_forms rules decl) derives ≡ []
      → AllByRecursion IsSupported (map (λ (it : Derived). pair number decl it.derive) derives)
  under_each number decl [] none = tt
  under_each number decl (it ∷ derives) none =
      let here = derived_forms rules decl it in
      let later = flat_map (derived_forms rules decl) derives in
      (none-left here later none, under_each number decl derives (none-right here later none))

  all_supported : (number : ℕ) (decls : List DeriveInput) → flat_map (decl_forms rules) decls ≡ [] → AllByRecursion IsSupported (pairs_from number decls)
  all_supported number [] none = tt
  all_supported number (decl ∷ decls) none =
      let own = flat_map (derived_forms rules decl) (derives_of decl.attrs) in
      let here = decl_forms rules decl in
      let later = flat_map (decl_forms rules) decls in
      all-append IsSupported (pairs_of number decl) (pairs_from (suc number) decls)
      (under_each number decl (derives_of decl.attrs) (none-left own (declared_forms decl) (none-left here later none)))
      (all_supported (suc number) decls (none-right here later none))

  pub each_supported : (decls : List DeriveInput) → first_form rules decls ≡ None → AllByRecursion IsSupported (pairs_from 0 decls)
  each_supported decls none = all_supported 0 decls (none_first (λ (it : Unsupported). it.span) (flat_map (decl_forms rules) decls) none)
