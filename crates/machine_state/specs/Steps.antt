-- How contracts say what a step of a run does.
use Rattle.std.specs.Prelude.{◌≡◌, List, Option, Result, IfOk, OnOk, option_map}
use Rattle.std.specs.declared.alloc.AllocError.{AllocError}
use Rattle.error_core.specs.Answers.{Answers, Fails}
use Rattle.error_core.specs.ErrorView.{ErrorView}
use Rattle.error_core.specs.declared.fail.Fail.{Fail}
use Rattle.error_fault.specs.declared.fault.Fault.{Fault}
use Rattle.error_fault.specs.Outcome.{Outcome}
use Rattle.machine_value.specs.declared.value.Value.{Value as Datum}
use Rattle.machine_read.specs.Attributes.{on_items}
use Rattle.machine_read.specs.NestedMeta.{NestedMeta}
use Rattle.machine_read.specs.Progress.{Aside, Progress, building, going}
use Rattle.machine_read.specs.State.{State}
use Rattle.machine_read.specs.Statements.{moving}
use Rattle.machine_state.specs.declared.progress.Progress.{Progress as Come}
use Rattle.machine_state.specs.declared.slot.Slot.{Slot as Held}
use Rattle.machine_state.specs.declared.state.State.{State as Stands}
use Rattle.machine_state.specs.Seen.{Change, answered, change_of, progress_of, state_of}

-- the progress behind the step is what `step` makes of the progress before, whatever stands beside the state
abbrev pub Goes : (Progress → Progress) → Stands → Come → Stands → Result Come AllocError → Type 0
Goes step old before new result =
    (aside : Aside) → IfOk result (λ it. progress_of (state_of new) aside it ≡ step (progress_of (state_of old) aside before))

-- a run that goes on goes on from the next state
abbrev pub Moves : (State → State) → Stands → Come → Stands → Result Come AllocError → Type 0
Moves next old before new result = Goes (moving next) old before new result

-- the state behind the step is the next one
abbrev pub Becomes : (State → State) → Stands → Stands → Result (Unit {0}) AllocError → Type 0
Becomes next old new result = OnOk result (state_of new ≡ next (state_of old))

-- the run has come to this progress, whatever the state is and what stands beside it
abbrev pub Comes : Progress → Result Come AllocError → Type 0
Comes progress result = (after : State) (aside : Aside) → IfOk result (λ it. progress_of after aside it ≡ progress)

-- a run that goes on has come to this progress, whatever the state is and what stands beside it
abbrev pub Stops : Progress → Come → Result Come AllocError → Type 0
Stops over before result =
    (old after : State) (aside : Aside) → IfOk result (λ it. progress_of after aside it ≡ going (λ state beside. over) (progress_of old aside before))

-- the run has come to what `make` makes of what was built
abbrev pub Builds : (Outcome Datum → Outcome Datum) → Come → Result Come AllocError → Type 0
Builds make before result = (old : State) (aside : Aside) → Comes (building make (progress_of old aside before)) result

-- the faults of a list that is none are put behind those before
abbrev pub Refuses : Fail → Stands → Come → Stands → Result Come AllocError → Type 0
Refuses fail old before new result =
    (read : List NestedMeta → Progress → Progress) (outcome : Outcome (List NestedMeta)) → Fails fail outcome
    → Goes (on_items read outcome) old before new result

-- the slot and its faults are what `make` makes of the answer
abbrev pub Changes : (Outcome Datum → Change) → Result Datum Fail → Result (Held × List Fault) AllocError → Type 0
Changes make answer result =
    (outcome : Outcome Datum) → Answers (λ it. it) answer outcome → IfOk result (λ it. change_of it ≡ make outcome)

-- there is this outcome, or none
abbrev pub IsOutcome : Result (Option (Result Datum ErrorView)) AllocError → Option (Outcome Datum) → Type 0
IsOutcome result outcome = IfOk result (λ it. option_map answered it ≡ outcome)
