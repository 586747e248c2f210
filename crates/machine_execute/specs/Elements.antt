-- The machine on an element of a unit's kind.
use Rattle.std.specs.Prelude.{◌≡◌, ℕ, Option, Some, None, option_and_then, slice_get, if◌then◌else◌}
use Rattle.error_fault.specs.Outcome.{Outcome}
use Rattle.codegen_program.specs.Traits.{same_derive}
use Rattle.codegen_program.specs.declared.program.Program.{Program}
use Rattle.codegen_program.specs.declared.program.«Unit».{«Unit» as Unit'}
use Rattle.machine_value.specs.declared.value.Value.{Value as Datum}
pub use Rattle.machine_read.specs.Elements.{Element, OnNested, OnInput, OnField, OnVariant, OnTypeParam, OnAttributes, derive_of, element_of}
use Rattle.machine_read.specs.HostSays.{HostSays}
use Rattle.machine_read.specs.Machine.{setting_of, unit_element, units_before}

module _ (host : HostSays) (program : Program) where
  -- a unit on an element of its derive's kind, under the program that it is of; on no other
  abbrev pub unit_on : Unit' → Element → Option (Outcome Datum)
  unit_on unit element =
      if same_derive unit.derive (derive_of element) then unit_element (setting_of host program) (units_before host program unit) unit element else None

  -- the unit of the number, on an element
  abbrev pub machine_on : ℕ → Element → Option (Outcome Datum)
  machine_on number element = option_and_then (λ unit. unit_on unit element) (slice_get program.units number)

  -- the unit has an outcome on the element
  abbrev pub HasOutcome : ℕ → Element → Type 0
  HasOutcome number element = (outcome : Outcome Datum) × (machine_on number element ≡ Some outcome)
