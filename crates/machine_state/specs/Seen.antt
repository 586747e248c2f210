-- What contracts see of a run: its slots, its state, what it is run on, and how far it has come.
use Rattle.std.specs.Prelude.{◌≡◌, Bool, List, map, Option, Result, Ok, Err}
use Rattle.std.specs.Option.{option_copied}
use denote.Ref.{Bor}
use Rattle.tok_types.specs.Ident.{ident_text}
use Rattle.node_expr.specs.declared.ty.«Type».{«Type» as Type'}
use Rattle.error_core.specs.ErrorView.{ErrorView}
use Rattle.error_core.specs.Answers.{refusal}
use Rattle.error_fault.specs.declared.fault.Fault.{Fault}
use Rattle.error_fault.specs.Outcome.{Outcome, Value, Faults}
use Rattle.machine_value.specs.declared.value.Value.{Value as Datum}
use Rattle.machine_state.specs.declared.slot.Slot.{Slot as Held}
use Rattle.machine_state.specs.declared.slot.Slot.TheVariants as held
use Rattle.machine_state.specs.declared.state.State.{State as Stands}
use Rattle.machine_state.specs.declared.receiver.Receiver.{Receiver as Makes}
use Rattle.machine_state.specs.declared.progress.Progress.{Progress as Come}
use Rattle.machine_state.specs.declared.progress.Progress.TheVariants as come
use Rattle.machine_read.specs.State.{Slot, One, Several, State}
use Rattle.machine_read.specs.Progress.{Aside, Progress, Going, Built, Ended, Stuck}
use Rattle.machine_read.specs.Receivers.{Receiver}

abbrev pub slot_of : Held → Slot
slot_of (held.One ty seen value) = One ty.now seen value
slot_of (held.Several ty values) = Several ty.now values

abbrev pub state_of : Stands → State
state_of it = record { slots = map slot_of it.slots; faults = it.faults; kept = it.kept; whole = it.whole }

-- what gives the place for one value, or that for a list
abbrev pub slot_by : Result (Bor Type' × Bool × Option Datum) (Bor Type' × List Datum) → Held
slot_by (Ok one) = held.One one.0 one.1 one.2
slot_by (Err several) = held.Several several.0 several.1

-- a slot, and more faults
abbrev pub Change : Type 0
Change = Slot × List Fault

abbrev pub change_of : Held × List Fault → Change
change_of it = (slot_of it.0, it.1)

abbrev pub StateSeen : Type 0
StateSeen = State

abbrev pub AsideSeen : Type 0
AsideSeen = Aside

-- what a function makes
abbrev pub receiver_of : Makes → Receiver
receiver_of it = record { type = it.ty.now; name = ident_text it.ident.now; derive = it.derive; decl = option_copied it.decl }

-- the outcome that an answer is
abbrev pub answered : Result Datum ErrorView → Outcome Datum
answered (Ok value) = Value value
answered (Err error) = refusal error

-- the run ends with the faults
abbrev pub ending : Outcome Datum → Progress
ending (Value value) = Built (Value value)
ending (Faults fault more) = Ended fault more

abbrev pub ended : ErrorView → Progress
ended error = ending (refusal error)

-- how far the run has come whose state this is, and what stands beside it
abbrev pub progress_of : State → Aside → Come → Progress
progress_of state aside come.Going = Going state aside
progress_of state aside (come.Built answer) = Built (answered answer)
progress_of state aside (come.Ended error) = ended error
progress_of state aside come.Stuck = Stuck

-- what a statement leaves that asks for a run that goes on, where this one does not
abbrev pub IsStopped : Come → Come → Type 0
IsStopped come.Going over = ⊥
IsStopped (come.Built answer) over = over ≡ come.Stuck
IsStopped (come.Ended error) over = over ≡ come.Ended error
IsStopped come.Stuck over = over ≡ come.Stuck

-- what gives what was built, or what a transform leaves
abbrev pub IsBuilt : Come → Result (Result Datum ErrorView) Come → Type 0
IsBuilt come.Going it = it ≡ Err come.Stuck
IsBuilt (come.Built answer) it = it ≡ Ok answer
IsBuilt (come.Ended error) it = it ≡ Err (come.Ended error)
IsBuilt come.Stuck it = it ≡ Err come.Stuck
