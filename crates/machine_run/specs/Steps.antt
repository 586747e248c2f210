-- How contracts say what a statement does.
use Rattle.std.specs.Prelude.{◌≡◌, ℕ, Option, Result, IfOk}
use Rattle.std.specs.declared.alloc.AllocError.{AllocError}
use Rattle.tok_types.specs.declared.ident.Ident.{Ident}
use Rattle.error_fault.specs.Outcome.{Outcome}
use Rattle.machine_value.specs.declared.value.Value.{Value as Datum}
use Rattle.node_core.specs.Meta.{path_of_meta}
use Rattle.node_core.specs.declared.attr.Attribute.{Attribute}
use Rattle.codegen_program.specs.declared.callable.Callable.{Callable}
use Rattle.codegen_program.specs.declared.forward.Forward.{Forward}
use Rattle.codegen_program.specs.declared.init.DefaultSource.{DefaultSource}
use Rattle.codegen_program.specs.declared.shape.ShapeSpec.{ShapeSpec}
use Rattle.machine_read.specs.Setting.{Setting}
use Rattle.machine_read.specs.Progress.{Aside, Progress, Going, going, on_outcome}
use Rattle.machine_read.specs.State.{Slot, State, put, slot_at}
use Rattle.machine_read.specs.Asked.{Asked}
use Rattle.machine_read.specs.Attributes.{keep, passes}
use Rattle.machine_read.specs.Elements.{Element}
use Rattle.machine_steps.specs.Parts.{body_step, shape_step}
use Rattle.machine_read.specs.Reads.{Before}
use Rattle.machine_read.specs.Receivers.{Receiver}
use Rattle.machine_read.specs.Statements.{source_value}
use Rattle.machine_outer.specs.Seen.{aside_of}
use Rattle.machine_outer.specs.declared.aside.Aside.{Aside as Beside}
use Rattle.machine_state.specs.Seen.{Change, progress_of, state_of}
use Rattle.machine_state.specs.declared.progress.Progress.{Progress as Come}
use Rattle.machine_run.specs.declared.standing.Standing.{Standing}

-- how far the run has come that stands so
abbrev pub reached : Standing → Come → Progress
reached it come = progress_of (state_of it.state) (aside_of it.aside) come

-- the progress behind the step is what `step` makes of the progress before
abbrev pub Proceeds : (Progress → Progress) → Standing → Come → Standing → Result Come AllocError → Type 0
Proceeds step old before new result = IfOk result (λ it. reached new it ≡ step (reached old before))

-- the slot of a place is changed, and its faults are put behind those before
abbrev pub change_at : ℕ → (Slot → Change) → State → State
change_at place change state = put place (change (slot_at state.slots place)) state

-- the default of the receiver
abbrev pub default_of : Setting → Receiver → Asked → DefaultSource → Outcome Datum
default_of setting receiver asked source = source_value setting receiver.type asked source

-- goes on with the default of the receiver, and else ends with its faults
abbrev pub with_default : Outcome Datum → Progress → Progress
with_default default = going (λ state aside. on_outcome default (λ whole. Going (record state { whole = whole }) aside))

-- ---- parts of the element, whatever it is

-- the attribute is kept where it passes
abbrev pub Keeps : Forward → Attribute → Beside → Come → Beside → Result Come AllocError → Type 0
Keeps forward attribute old before new result =
    (state : State)
    → IfOk result (λ it. progress_of state (aside_of new) it
    ≡ keep (passes forward (path_of_meta attribute.meta)) attribute (progress_of state (aside_of old) before))

-- the shape is looked at
abbrev pub ChecksShape : ShapeSpec → Come → Result Come AllocError → Type 0
ChecksShape spec before result =
    (element : Element) (state : State) (aside : Aside)
    → IfOk result (λ it. progress_of state aside it ≡ shape_step spec element (progress_of state aside before))

-- the body is read into the field
abbrev pub ReadsBody : Option Ident → Option Callable → Come → Result Come AllocError → Type 0
ReadsBody ident with old result =
    (setting : Setting) (before : Before) (receiver : Receiver) (element : Element) (state : State) (aside : Aside)
    → IfOk result (λ it. progress_of state aside it ≡ body_step setting before receiver element ident with (progress_of state aside old))
