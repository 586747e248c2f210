-- What is done in a run.
use Rattle.std.specs.Prelude.{List, Option, fold}
use Rattle.base_core.specs.declared.text.Text.{Text}
use Rattle.tok_types.specs.declared.ident.Ident.{Ident}
use Rattle.node_core.specs.declared.attr.Attribute.{Attribute}
use Rattle.codegen_program.specs.declared.callable.Callable.{Callable}
use Rattle.codegen_program.specs.declared.forward.Forward.{Forward}
use Rattle.codegen_program.specs.declared.stmt.Stmt.{Stmt}
use Rattle.machine_read.specs.Asked.{Items}
use Rattle.machine_read.specs.Attributes.{attrs_outcome, on_attribute}
use Rattle.machine_read.specs.NestedMeta.{NestedMeta}
use Rattle.machine_read.specs.HostSays.{HostSays}
use Rattle.machine_read.specs.Progress.{Aside, Progress}
use Rattle.machine_read.specs.Reads.{Before, Earlier, metas}
use Rattle.machine_read.specs.Receivers.{Receiver, declared_type}
use Rattle.machine_read.specs.Setting.{Setting}
use Rattle.machine_read.specs.State.{State}
use Rattle.machine_read.specs.Scopes.{setting_in}
use Rattle.machine_read.specs.Statements.{run as run_of, run_from}
use Rattle.machine_state.specs.Seen.{receiver_of}
use Rattle.machine_steps.specs.Parts.{attrs_stored}
use Rattle.machine_run.specs.declared.run.Run.{Run}

-- the setting of a run
abbrev pub run_setting : {H D : Type 0} → (H → HostSays) → Run H D → Setting
run_setting says run = setting_in says run.scope.setting

-- what is made of a receiver by the host alone
abbrev pub making : {H D A : Type 0} → (H → HostSays) → Run H D → (Setting → Receiver → A) → A
making says run make = make (run_setting says run) (receiver_of run.receiver)

-- what is done under the scope of a run and for the receiver that it makes
abbrev pub in_run : {H D A : Type 0} → (H → HostSays) → (D → Before) → Run H D → (Setting → Before → Receiver → A) → A
in_run says before run done = done (run_setting says run) (before run.scope.declared.now) (receiver_of run.receiver)

-- what is read of an enum, by its name
abbrev pub of_enum : {H D A : Type 0} → (H → HostSays) → (D → Before) → Run H D → (Setting → Earlier → Text → A) → A
of_enum says before run read = read (run_setting says run) (metas (before run.scope.declared.now)) (receiver_of run.receiver).name

-- what statements do on the items of a list
abbrev pub on_list : {H D : Type 0} → (H → HostSays) → (D → Before) → Run H D → List Stmt → List NestedMeta → Progress → Progress
on_list says before run stmts list = in_run says before run run_from stmts (Items list)

-- what statements do on the items of a list, from the start
abbrev pub from_start : {H D : Type 0} → (H → HostSays) → (D → Before) → Run H D → List Stmt → List NestedMeta → Progress
from_start says before run stmts list = in_run says before run run_of stmts (Items list)

-- what statements do on the items of attributes of these names, where others may be kept
abbrev pub on_attributes : {H D : Type 0} → (H → HostSays) → (D → Before) → Run H D → List Stmt → List Text → Forward → List Attribute → Progress → Progress
on_attributes says before run stmts names forward attributes progress =
    fold (on_attribute (on_list says before run stmts) names forward) progress attributes

-- what fills the field of the attributes that were kept
abbrev pub done_by : {H D : Type 0} → (H → HostSays) → Run H D → Ident → Option Callable → State → Aside → Progress
done_by says run ident with state aside =
    making says run (λ setting receiver. attrs_stored (attrs_outcome setting with (declared_type receiver ident) aside.kept) state aside)
