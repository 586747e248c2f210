-- How far a run of a function has come.
use Rattle.std.specs.Prelude.{Bool, false, List, [], ◌∷◌, Option, Some, None}
use Rattle.node_core.specs.declared.attr.Attribute.{Attribute}
use Rattle.error_fault.specs.declared.fault.Fault.{Fault}
use Rattle.error_fault.specs.Outcome.{Outcome, Value, Faults}
use Rattle.machine_value.specs.declared.value.Value.{Value as Datum}
use Rattle.machine_value.specs.Members.{no_value}
use Rattle.machine_steps.specs.State.{State}

-- What stands beside the state: the attributes that are kept, whether the shape was refused, and the parts of the element that
-- were read.
pub record Aside : Type 0 where
  pub kept : List Attribute
  pub misshapen : Bool
  pub attrs : Option Datum
  pub body : Option Datum
  pub generics : Option Datum

-- nothing is kept or read yet
abbrev pub no_aside : Aside
no_aside = record { kept = []; misshapen = false; attrs = None; body = None; generics = None }

-- It goes on from a state; it has built the receiver, which transforms may follow; it has ended with faults; or it has
-- no outcome, since a slot had no value or a statement stood where it may not.
pub data Progress : Type 0 where
  Going : State → Aside → Progress
  Built : Outcome Datum → Progress
  Ended : Fault → List Fault → Progress
  Stuck : Progress

-- no slot is declared yet
abbrev pub start : State
start = record { slots = []; faults = []; kept = []; whole = no_value }

-- what follows from the state, where the run goes on
abbrev pub going : (State → Aside → Progress) → Progress → Progress
going next (Going state aside) = next state aside
going next (Built outcome) = Stuck
going next (Ended fault more) = Ended fault more
going next Stuck = Stuck

-- the same of what was built
abbrev pub building : (Outcome Datum → Outcome Datum) → Progress → Progress
building next (Going state aside) = Stuck
building next (Built outcome) = Built (next outcome)
building next (Ended fault more) = Ended fault more
building next Stuck = Stuck

-- goes on without faults, and else ends with them
abbrev pub unless_faults : List Fault → State → Aside → Progress
unless_faults [] state aside = Going state aside
unless_faults (fault ∷ more) state aside = Ended fault more

-- goes on from the value, and else ends with the faults
abbrev pub on_outcome : Outcome Datum → (Datum → Progress) → Progress
on_outcome (Value value) next = next value
on_outcome (Faults fault more) next = Ended fault more

-- what was built, if each slot that was asked for a value has one
abbrev pub built_or_stuck : Option (Outcome Datum) → Progress
built_or_stuck None = Stuck
built_or_stuck (Some outcome) = Built outcome

-- the outcome of a run that is over
abbrev pub outcome : Progress → Option (Outcome Datum)
outcome (Going state aside) = None
outcome (Built it) = Some it
outcome (Ended fault more) = Some (Faults fault more)
outcome Stuck = None
