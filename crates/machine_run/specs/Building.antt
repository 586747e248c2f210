-- What a run builds of members and of parts of the element.
use Rattle.std.specs.Prelude.{◌≡◌, List, map, Option, Result, Ok, Err, IfOk, option_map}
use Rattle.std.specs.declared.alloc.AllocError.{AllocError}
use Rattle.base_core.specs.declared.text.Text.{Text}
use Rattle.tok_types.specs.Ident.{ident_text}
use Rattle.tok_types.specs.declared.ident.Ident.{Ident}
use Rattle.node_core.specs.declared.style.Style.{Style}
use Rattle.error_core.specs.Answers.{refusal}
use Rattle.error_core.specs.ErrorView.{ErrorView}
use Rattle.error_fault.specs.Outcome.{Outcome, Value, on_value}
use Rattle.machine_value.specs.declared.value.Value.{Value as Datum}
use Rattle.machine_value.specs.Members.{labelled}
use Rattle.codegen_program.specs.declared.forwarded.Forwarded.{Forwarded}
use Rattle.codegen_program.specs.declared.init.Init.{Init}
use Rattle.machine_outer.specs.Seen.{aside_of}
use Rattle.machine_read.specs.Asked.{Asked}
use Rattle.machine_read.specs.Building.{built, made}
use Rattle.machine_read.specs.HostSays.{HostSays}
use Rattle.machine_read.specs.Progress.{Progress, built_or_stuck}
use Rattle.machine_read.specs.Setting.{Setting}
use Rattle.machine_read.specs.Slots.{init_value, init_values}
use Rattle.machine_read.specs.State.{State, slot_at}
use Rattle.machine_state.specs.Seen.{receiver_of, state_of}
use Rattle.machine_run.specs.Runs.{run_setting}
use Rattle.machine_run.specs.declared.run.Run.{Run}
use Rattle.machine_run.specs.declared.standing.Standing.{Standing}

-- the members of what is built
abbrev pub Members : Type 0
Members = List (Text × Datum)

-- the outcome that members are
abbrev pub told : Result Members ErrorView → Outcome Members
told (Ok members) = Value members
told (Err error) = refusal error

-- there are these members, or none
abbrev pub AreMembers : Result (Option (Result Members ErrorView)) AllocError → Option (Outcome Members) → Type 0
AreMembers result outcome = IfOk result (λ it. option_map told it ≡ outcome)

-- the value of a member, by its slot
abbrev pub member_value : Setting → State → Init → Option (Outcome Datum)
member_value setting state init = init_value setting state.whole init.fallback (slot_at state.slots init.slot)

-- the members with their values, or what a default of one refuses
abbrev pub members_built : Setting → State → List Init → Option (Outcome Members)
members_built setting state inits =
    option_map (on_value (labelled (map (λ init. init.member) inits))) (init_values setting state.whole state.slots inits)

-- the struct of the values of its members, or the variant, or what a default of one refuses
abbrev pub form_built : Setting → Style → Ident → Option Ident → List Init → State → Progress
form_built setting style name variant inits state =
    built_or_stuck (option_map (on_value (λ values. made style (ident_text name) variant (labelled (map (λ init. init.member) inits) values)))
    (init_values setting state.whole state.slots inits))

-- the same where fields take parts of the element
abbrev pub woven_built : {H D : Type 0} → (H → HostSays) → Run H D → Asked → Ident → Option Ident → List Forwarded → List Init → Standing → Progress
woven_built says run asked name variant forwarded inits it =
    built_or_stuck (option_map (built (receiver_of run.receiver) asked (aside_of it.aside) name variant forwarded inits (run_setting says run))
    (init_values (run_setting says run) (state_of it.state).whole (state_of it.state).slots inits))
