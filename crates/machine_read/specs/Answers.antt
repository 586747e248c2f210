-- How answers follow from answers.
use Rattle.std.specs.Prelude.{ℕ, Option, Some, Result}
use denote.Ref.{Bor}
use Rattle.error_core.specs.Answers.{Answers}
use Rattle.error_core.specs.declared.fail.Fail.{Fail}
use Rattle.error_fault.specs.Outcome.{Outcome}
use Rattle.meta_nested.specs.Cells.{Cells, AnswersCell, cell_at}
use Rattle.meta_nested.specs.declared.call.Call.{Call}
use Rattle.machine_leaf.specs.Shown.{shown_cells}
use Rattle.machine_value.specs.declared.value.Value.{Value as Datum}
use Rattle.machine_rows.specs.declared.row.Row.{Row}
use Rattle.machine_steps.specs.Elements.{element_of}
use Rattle.machine_steps.specs.Reads.{Reads}
use Rattle.machine_steps.specs.declared.asked.Asked.{Asked}
use Rattle.machine_steps.specs.declared.asked.Asked.TheVariants as asked
use Rattle.machine_read.specs.declared.inside.Inside.{Inside}
use Rattle.machine_read.specs.declared.scope.Scope.{Scope}

-- the result is what a function of outcomes makes of the answer
abbrev pub Maps : (Outcome Datum → Outcome Datum) → Result Datum Fail → Result Datum Fail → Type 0
Maps make answer result = (outcome : Outcome Datum) → Answers (λ it. it) answer outcome → Answers (λ it. it) result (make outcome)

-- the result is the answer to a call, with its value shown
abbrev pub Shows : {T Seen : Type 0} → (T → Seen) → (Seen → Datum) → Result (Option T) Fail → Result (Option Datum) Fail → Type 0
Shows {T} {Seen} seen show answer result =
    (cells : Cells Seen) (call : Call) → AnswersCell seen answer (cell_at cells call)
    → AnswersCell (λ it. it) result (cell_at (shown_cells show cells) call)

-- a declaration that reads so answers what it is asked
abbrev pub AnswersAsked : Result (Option Datum) Fail → Reads → Asked → Type 0
AnswersAsked answer reads (asked.Cell call) = AnswersCell (λ it. it) answer (cell_at reads.cells call)
AnswersAsked answer reads (asked.Element element) = AnswersCell (λ it. it) answer (Some (reads.outer (element_of element)))

-- the function of a row may be asked each call, and answers what these cells do
abbrev pub ReadsRow :
    {H D F : Type 0}
    → (F → Bor (Scope H D) → ℕ → Bor Row → Call → Type 0)
    → (F → Bor (Scope H D) → ℕ → Bor Row → Call → Result (Option Datum) Fail → Type 0)
    → Inside H D F → Cells Datum → Type 0
ReadsRow pre post it cells =
    ((call : Call) → pre it.cell it.scope it.room it.row call)
    × ((call : Call) (answer : Result (Option Datum) Fail) → post it.cell it.scope it.room it.row call answer
    → AnswersCell (λ found. found) answer (cell_at cells call))
