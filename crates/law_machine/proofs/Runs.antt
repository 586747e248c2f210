-- A unit that options leave can be run.
use Rattle.std.proofs.Common.{◌≡◌, ◌∙◌, ℕ, true, Option, Some, None, refl, ap, subst, inl, inr}
use Rattle.std.specs.Prelude.{option_and_then, slice_get, if◌then◌else◌}
use Rattle.meta_nested.specs.Dispatch.{by_nested_meta}
use Rattle.error_fault.specs.Outcome.{Outcome}
use Rattle.machine_value.specs.declared.value.Value.{Value as Datum}
use Rattle.codegen_program.specs.Traits.{same_derive}
use Rattle.codegen_program.specs.declared.program.Derive.{Derive}
use Rattle.codegen_program.specs.declared.program.Derive.TheVariants as derives
use Rattle.codegen_program.specs.declared.program.Program.{Program}
use Rattle.codegen_program.specs.declared.program.«Unit».{«Unit» as Unit'}
use Rattle.meaning_core.specs.HostSays.{HostSays}
use Rattle.machine_execute.specs.Elements.{Element, OnNested, OnInput, OnField, OnVariant, OnTypeParam, OnAttributes, HasOutcome, derive_of, unit_on}
use Rattle.machine_execute.specs.Machine.{setting_of, unit_cells, unit_element, units_before}
use Rattle.law_machine.specs.Claims.{UnitsCanBeRun}
use Rattle.law_machine.specs.Kinds.{IsOfKind}
use Rattle.law_machine.specs.Left.{IsLeftInput}
use Rattle.law_machine.proofs.Left.{inputs_have_outcomes}

module _ (host : HostSays) (program : Program) (number : ℕ) (unit : Unit') (is : slice_get program.units number ≡ Some unit) where
  abbrev makes : Element → Option (Outcome Datum)
  makes element = unit_element (setting_of host program) (units_before host program unit) unit element

  -- what the unit makes of an element of its derive
  made : (derive : Derive) (element : Element) (found : Outcome Datum) → unit.derive ≡ derive → same_derive derive (derive_of element) ≡ true → makes element ≡ Some found
      → HasOutcome host program number element
  made derive element found of_derive agrees makes_it = (
    found,
    ap (option_and_then (λ unit. unit_on host program unit element)) is
        ∙ ap (λ b. if b then makes element else None) (ap (λ derive. same_derive derive (derive_of element)) of_derive ∙ agrees)
        ∙ makes_it,
  )

  by_meta : (element : Element) → unit.derive ≡ derives.FromMeta → IsOfKind derives.FromMeta element → HasOutcome host program number element
  by_meta (OnNested item) of_derive kind =
      made derives.FromMeta (OnNested item) (by_nested_meta (unit_cells (setting_of host program) (units_before host program unit) unit) item) of_derive refl refl
  by_meta (OnInput it) of_derive kind = absurd kind
  by_meta (OnField it) of_derive kind = absurd kind
  by_meta (OnVariant it) of_derive kind = absurd kind
  by_meta (OnTypeParam it) of_derive kind = absurd kind
  by_meta (OnAttributes attrs) of_derive kind = absurd kind

  by_input : (element : Element) → unit.derive ≡ derives.FromDeriveInput → IsLeftInput unit → IsOfKind derives.FromDeriveInput element → HasOutcome host program number element
  by_input (OnInput input) of_derive left kind =
      let found = inputs_have_outcomes (setting_of host program) (units_before host program unit) unit input left in
      made derives.FromDeriveInput (OnInput input) found.0 of_derive refl found.1
  by_input (OnNested item) of_derive left kind = absurd kind
  by_input (OnField it) of_derive left kind = absurd kind
  by_input (OnVariant it) of_derive left kind = absurd kind
  by_input (OnTypeParam it) of_derive left kind = absurd kind
  by_input (OnAttributes attrs) of_derive left kind = absurd kind

pub units_can_be_run : UnitsCanBeRun
units_can_be_run host program number unit element is (inl (left, compiled, kept)) kind =
    let of_derive : unit.derive ≡ derives.FromMeta = ap (λ (u : Unit'). u.derive) compiled in
    by_meta host program number unit is element of_derive (subst (λ derive. IsOfKind derive element) of_derive kind)
units_can_be_run host program number unit element is (inr (left, compiled, kept, bare, no_ident)) kind =
    let of_derive : unit.derive ≡ derives.FromDeriveInput = ap (λ (u : Unit'). u.derive) compiled in
    by_input host program number unit is element of_derive (left, compiled, kept, bare, no_ident) (subst (λ derive. IsOfKind derive element) of_derive kind)
