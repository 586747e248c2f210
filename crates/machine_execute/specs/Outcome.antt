-- How an outcome is kept: a value and no fault, or no value and at least one fault.
use Rattle.std.specs.Prelude.{Bool, true, false, List, [], ◌∷◌, Option, Some, None, codes}
use Rattle.error_fault.specs.declared.fault.Fault.{Fault}
use Rattle.error_fault.specs.declared.kind.FaultKind.TheVariants.{Custom}
use Rattle.error_fault.specs.Outcome.{Outcome, Value, Faults, refused}
use Rattle.machine_value.specs.declared.value.Value.{Value as Datum}

-- the faults where there is one, else the value
abbrev pub seen : Option Datum → List Fault → Outcome Datum
seen answer (fault ∷ more) = Faults fault more
seen (Some value) [] = Value value
seen None [] = refused (Custom (codes "neither"))

-- exactly one of the two is there
abbrev pub is_one : Option Datum → List Fault → Bool
is_one None [] = false
is_one None (fault ∷ more) = true
is_one (Some value) [] = true
is_one (Some value) (fault ∷ more) = false
