-- Functions of a unit as cells.
use Rattle.std.proofs.Common.{◌≡◌, ◌∙◌, List, Option, Some, None, Result, Ok, option_map, refl, ap, sym}
use Rattle.std.specs.Prelude.{option_and_then}
use Rattle.codegen_program.specs.declared.program.FuncName.{FuncName}
use Rattle.codegen_program.specs.declared.program.«Unit».{«Unit» as Unit'}
use Rattle.codegen_program.specs.declared.stmt.Stmt.{Stmt}
use Rattle.error_core.specs.Answers.{refusal}
use Rattle.error_core.specs.ErrorView.{ErrorView}
use Rattle.error_core.specs.declared.fail.Fail.{Fail}
use Rattle.error_fault.specs.Outcome.{Outcome, Value, value_of}
use Rattle.machine_value.specs.declared.value.Value.{Value as Datum}
use Rattle.machine_read.specs.Asked.{Asked}
use Rattle.machine_read.specs.Call.{Call}
use Rattle.machine_read.specs.Call.TheVariants as call
use Rattle.machine_read.specs.Cells.{AnswersCell, cell_at, no_cells}
use Rattle.machine_read.specs.Machine.{func_cell, is_func, or_unread, stmts_named}
use Rattle.machine_read.specs.Progress.{outcome}
use Rattle.machine_read.specs.Reads.{Before}
use Rattle.machine_read.specs.Receivers.{receiver_of}
use Rattle.machine_read.specs.Setting.{Setting}
use Rattle.machine_read.specs.Statements.{run}

-- what has no cells has none for any call
pub no_cell : (it : Call) → (let none : Option (Outcome Datum) = cell_at no_cells it in none) ≡ None
no_cell call.Word = refl
no_cell (call.List items) = refl
no_cell (call.String text span) = refl
no_cell (call.Char it) = refl
no_cell (call.Bool it) = refl
no_cell (call.Value it) = refl
no_cell (call.Expr it) = refl
no_cell (call.InvalidExpr it) = refl
no_cell (call.Meta it) = refl
no_cell (call.NestedMeta it) = refl
no_cell call.Absent = refl

module _ (setting : Setting) (before : Before) (name : FuncName) (unit : Unit') (asked : Asked) where
  abbrev ran : List Stmt → Outcome Datum
  ran stmts = or_unread (outcome (run setting before (receiver_of setting unit) stmts asked))

  -- the unit has the function
  pub found_cell : (stmts : List Stmt) (found : Option (Outcome Datum)) → Some stmts ≡ stmts_named (is_func name) unit.funcs
      → found ≡ outcome (run setting before (receiver_of setting unit) stmts asked) → func_cell setting before name unit asked ≡ Some (or_unread found)
  found_cell stmts found named same =
      ap (option_map ran) (sym named) ∙ ap (λ o. let cell : Option (Outcome Datum) = Some (or_unread o) in cell) (sym same)

  -- it has not
  pub no_stmts : None ≡ stmts_named (is_func name) unit.funcs → func_cell setting before name unit asked ≡ None
  no_stmts none = ap (option_map ran) (sym none)

-- the value of a cell where no item stands
abbrev kept : Option (Outcome Datum) → Option (Outcome Datum)
kept cell = option_map Value (option_and_then value_of cell)

pub none_found : (found : Option Datum) (cell : Option (Outcome Datum)) → (let answer : Result (Option Datum) Fail = Ok found in AnswersCell (λ it. it) answer cell)
    → (let answer : Result (Option Datum) Fail = Ok found in AnswersCell (λ it. it) answer (option_map Value (option_and_then value_of cell)))
none_found None cell is = ap kept is
none_found (Some value) cell is = ap kept is

-- faults count as none
pub none_refused : (error : ErrorView) (cell : Option (Outcome Datum)) → cell ≡ Some (refusal error) → option_map Value (option_and_then value_of cell) ≡ None
none_refused error cell is = ap kept is
