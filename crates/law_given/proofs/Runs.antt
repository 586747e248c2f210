-- A unit that options give can be run, and where the program fits its host, the receiver can.
use Rattle.std.proofs.Common.{◌≡◌, ◌∙◌, ◌<◌, ◌+◌, ◌-◌, ◌==◌, ◌&&◌, ℕ, Bool, true, false, cond, nat_lt, length, slice_get, Some, None, refl, sym, ap, subst, arith}
use Rattle.std.specs.List.{list_any}
use Rattle.std.proofs.lemmas.Bool.{and_parts}
use Rattle.std.proofs.lemmas.Bool.Decides.{Decides-ltb, nat_tests}
use Rattle.node_core.specs.declared.derive.DeriveInput.{DeriveInput}
use Rattle.codegen_program.specs.Traits.{is_input}
use Rattle.codegen_program.specs.declared.program.Derive.{Derive}
use Rattle.codegen_program.specs.declared.program.Derive.TheVariants as derive
use Rattle.codegen_program.specs.declared.program.Program.{Program}
use Rattle.codegen_program.specs.declared.program.«Unit».{«Unit» as Unit'}
use Rattle.machine_forms.specs.Refusals.{first, first_row}
use Rattle.machine_forms.specs.declared.refusals.Refusals.{Refusals}
use Rattle.machine_forms.specs.declared.unfit.Unfit.TheVariants as unfit
use Rattle.law_options.specs.HostSays.{HostSays}
use Rattle.law_options.specs.Unfitness.{refusals, unfitness}
use Rattle.law_options.specs.Units.{is_of, is_receiver as is_received}
use Rattle.machine_execute.specs.Elements.{OnInput}
use Rattle.run_accepted.proofs.FitLemmas.{no_rows}
use Rattle.run_accepted.specs.Plain.{IsPlainDecl, IsPlainUnder}
use Rattle.run_accepted.specs.declared.derives.Derived.{Derived}
use Rattle.run_accepted.proofs.PlainLemmas.{plain_under}
use Rattle.run_accepted.proofs.ListLemmas.{at_place}
use Rattle.law_machine.specs.Kinds.{IsOfKind}
use Rattle.law_machine.specs.Left.{IsLeftUnit}
use Rattle.law_machine.proofs.Runs.{units_can_be_run}
use Rattle.run_source.specs.Receiver.{is_receiver, receiver}
use Rattle.run_source.proofs.ReceiverLemmas.{first_passes}
use Rattle.law_given.specs.Claims.{FitCanRun, GivenHasOutcome}
use Rattle.law_given.specs.Given.{IsGiven, IsGivenUnit, NamesDerive}
use Rattle.law_given.proofs.Left.{unit_is_left}

-- ---- a unit

-- a declaration that names the derive can be run so
pub built_so : (decl : DeriveInput) (it : Derive) → IsPlainDecl decl → NamesDerive decl it → IsPlainUnder decl it
built_so decl it plain (place, one, within, at, same) =
    let P : Derived → Type 0 = λ some. IsPlainUnder decl some.derive in
    subst (IsPlainUnder decl) same (subst P at (plain_under decl plain place one within))

pub left_at : (program : Program) (number : ℕ) (unit : Unit') → IsGiven program → slice_get program.units number ≡ Some unit → IsLeftUnit unit
left_at program number unit given at =
    let is = at_place (IsGivenUnit program.decls) program.units number unit given.units at in
    unit_is_left is.rules unit.decl is.written unit.derive unit is.built (built_so is.written unit.derive is.built is.named) is.compiled

pub given_has_outcome : GivenHasOutcome
given_has_outcome host program number unit element given at kind =
    units_can_be_run host program number unit element at (left_at program number unit given at) kind

-- ---- the receiver

has_one : (has : Bool) → cond has None (Some unfit.NoReceiver) ≡ None → has ≡ true
has_one true none = refl
has_one false none = cc

-- where nothing is named against a program, it has a receiver
receives : (it : Refusals) → first it ≡ None → it.has_receiver ≡ true
receives it none =
    let rows = no_rows _ _ _ _ _ none in
    has_one it.has_receiver (sym (λ k. first_row (rows.0 k) (rows.1 k) (rows.2 k) (rows.3 k) it.has_receiver) ∙ none)

-- the last of so many numbers
is_last : (number count : ℕ) → 0 < count → (number == count - 1) ≡ (number + 1 == count)
is_last number count some = grind (arith, nat_tests)

input_kind : (it : Derive) (subject : DeriveInput) → is_input it ≡ true → IsOfKind it (OnInput subject)
input_kind derive.FromDeriveInput subject reads = tt
input_kind derive.FromMeta subject reads = absurd cc
input_kind derive.FromAttributes subject reads = absurd cc
input_kind derive.FromField subject reads = absurd cc
input_kind derive.FromTypeParam subject reads = absurd cc
input_kind derive.FromVariant subject reads = absurd cc

module _ (host : HostSays) (program : Program) (fits : unfitness host program ≡ None) where
  abbrev count : ℕ
  count = length program.decls

  has_receiver : (nat_lt 0 count ≡ true) × (is_received program.units (count - 1) ≡ true)
  has_receiver = and_parts (nat_lt 0 count) (is_received program.units (count - 1)) (receives (refusals host program) fits)

  same_test : (unit : Unit') → (is_of (count - 1) unit && is_input unit.derive) ≡ is_receiver count unit
  same_test unit = ap (λ last. last && is_input unit.derive) (is_last unit.decl count ((Decides-ltb 0 count).0 has_receiver.0))

  first_receiver : (number : ℕ) × (unit : Unit') × (receiver program ≡ Some number) × (slice_get program.units number ≡ Some unit)
      × (is_receiver count unit ≡ true)
  first_receiver = first_passes (is_receiver count) program.units (sym (λ k. list_any (λ unit. same_test unit k) program.units) ∙ has_receiver.1)

pub fit_can_run : FitCanRun
fit_can_run host program given fits =
    let (number, unit, first, at, is) = first_receiver host program fits in
    let reads = (and_parts (unit.decl + 1 == length program.decls) (is_input unit.derive) is).1 in
    record {
      number = number;
      receiver = first;
      outcomes = λ subject. given_has_outcome host program number unit (OnInput subject) given at (input_kind unit.derive subject reads);
    }
