-- The receiver of a program, and what it makes of items of a text.
use Rattle.std.specs.Prelude.{◌≡◌, ◌+◌, ◌==◌, ◌&&◌, ℕ, Bool, length, position, Option, Some, option_and_then}
use Rattle.node_core.specs.declared.derive.DeriveInput.{DeriveInput}
use Rattle.error_fault.specs.Outcome.{Outcome}
use Rattle.codegen_program.specs.declared.program.Program.{Program}
use Rattle.codegen_program.specs.declared.program.«Unit».{«Unit» as Unit'}
use Rattle.machine_value.specs.declared.value.Value.{Value as Datum}
use Rattle.machine_execute.specs.Elements.{HasOutcome, OnInput, machine_on}
use Rattle.law_options.specs.HostSays.{HostSays}
use Rattle.codegen_program.specs.Traits.{is_input}

-- by the unit items of a text are read as the last of so many declarations
abbrev pub is_receiver : ℕ → Unit' → Bool
is_receiver count unit = (unit.decl + 1 == count) && is_input unit.derive

-- the number of the first such unit
abbrev pub receiver : Program → Option ℕ
receiver program = position (is_receiver (length program.decls)) program.units

-- what the receiver makes of an item
abbrev pub outcome : HostSays → Program → DeriveInput → Option (Outcome Datum)
outcome host program subject = option_and_then (λ number. machine_on host program number (OnInput subject)) (receiver program)

-- the program has a receiver, and this has an outcome on any item
pub record CanRun (host : HostSays) (program : Program) : Type 0 where
  pub number : ℕ
  pub receiver : receiver program ≡ Some number
  pub outcomes : (subject : DeriveInput) → HasOutcome host program number (OnInput subject)
