-- Why a program can't be run with a host.
use Rattle.std.specs.Prelude.{◌-◌, ◌&&◌, Bool, length, nat_lt, Option}
use Rattle.codegen_program.specs.declared.program.Program.{Program}
use Rattle.machine_forms.specs.HostSays.{HostSays}
use Rattle.machine_forms.specs.declared.refusals.Refusals.{Refusals}
use Rattle.machine_forms.specs.declared.unfit.Unfit.{Unfit}
use Rattle.machine_forms.specs.Forms.{unsupported}
use Rattle.machine_forms.specs.Names.{duplicate_names}
use Rattle.machine_forms.specs.Refusals.{first}
use Rattle.machine_forms.specs.Units.{is_receiver}
use Rattle.machine_callables.specs.Callables.{unknown_callables}
use Rattle.machine_fit.specs.Types.{unknown_types}

-- there is a last declaration, and items of a text are read as it
abbrev pub has_receiver : Program → Bool
has_receiver program = nat_lt 0 (length program.decls) && is_receiver program.units (length program.decls - 1)

-- all that stands against it; places stand in the order in which the program prints, each declaration before its units
abbrev pub refusals : HostSays → Program → Refusals
refusals host program = record {
  duplicate_names = duplicate_names program;
  unsupported = unsupported program;
  unknown_types = unknown_types host program;
  unknown_callables = unknown_callables host program;
  has_receiver = has_receiver program;
}

-- what is named of it: the first row that has a place, at its first place
abbrev pub unfitness : HostSays → Program → Option Unfit
unfitness host program = first (refusals host program)
