-- Answers of a host, by their values and faults.
use Rattle.std.specs.Prelude.{List, Option, Some, None, Result, Ok, Err}
use Rattle.error_fault.specs.declared.fault.Fault.{Fault}
use Rattle.machine_value.specs.declared.value.Value.{Value}
use Rattle.machine_host.specs.declared.said.Said.{Said}
use Rattle.machine_host.specs.declared.said.Said.TheVariants as said

-- what gives the value, or nothing, or the faults
abbrev pub said_of : Result (Option Value) (Fault × List Fault) → Said
said_of (Ok (Some value)) = said.Given value
said_of (Ok None) = said.Absent
said_of (Err faults) = said.Faults faults.0 faults.1
