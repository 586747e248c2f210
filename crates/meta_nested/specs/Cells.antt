-- The cells of a type: what it answers to each call itself. A call without a cell has the default of all types.
use Rattle.std.specs.Prelude.{◌≡◌, ℕ, Bool, List, Option, Some, None, option_map, Result, Ok, Err}
use Rattle.base_core.specs.declared.text.Text.{Text}
use Rattle.tok_types.specs.declared.span.Span.{Span}
use Rattle.node_expr.specs.declared.expr.Expr.{Expr}
use Rattle.node_expr.specs.declared.lit.Lit.{Lit}
use Rattle.node_core.specs.declared.attr.Meta.{Meta}
use Rattle.error_fault.specs.Outcome.{Outcome, Value}
use Rattle.error_core.specs.Answers.{refusal}
use Rattle.error_core.specs.declared.fail.Fail.{Fail}
use Rattle.error_core.specs.declared.fail.Fail.TheVariants as fails
use Rattle.meta_nested.specs.declared.nested.MetaNameValueInvalidExpr.{MetaNameValueInvalidExpr}
use Rattle.meta_nested.specs.declared.nested.NestedMeta.{NestedMeta}
use Rattle.meta_nested.specs.declared.call.Call.{Call}
use Rattle.meta_nested.specs.declared.call.Call.TheVariants as call

-- one cell a call, each where the type has one; a cell may be there for some of what is asked, as for one kind of literal
pub record Cells (A : Type 0) : Type 0 where
  pub word : Option (Outcome A)
  pub list : List NestedMeta → Option (Outcome A)
  pub string : Text → Span → Option (Outcome A)
  pub char : ℕ → Option (Outcome A)
  pub bool : Bool → Option (Outcome A)
  pub value : Lit → Option (Outcome A)
  pub expr : Expr → Option (Outcome A)
  pub invalid_expr : MetaNameValueInvalidExpr → Option (Outcome A)
  pub meta : Meta → Option (Outcome A)
  pub nested_meta : NestedMeta → Option (Outcome A)
  pub none : Option A

-- a type that answers nothing itself; a row of the conversions says in which cells a type differs from it
abbrev pub no_cells : {A : Type 0} → Cells A
no_cells =
    record {
      word = None;
      list = λ items. None;
      string = λ text span. None;
      char = λ c. None;
      bool = λ b. None;
      value = λ it. None;
      expr = λ it. None;
      invalid_expr = λ it. None;
      meta = λ it. None;
      nested_meta = λ it. None;
      none = None;
    }

-- what the type's own cell answers to a call, where it has one
abbrev pub cell_at : {A : Type 0} → Cells A → Call → Option (Outcome A)
cell_at cells call.Word = cells.word
cell_at cells (call.List items) = cells.list items.now
cell_at cells (call.String text span) = cells.string text.now span
cell_at cells (call.Char c) = cells.char c
cell_at cells (call.Bool b) = cells.bool b
cell_at cells (call.Value it) = cells.value it.now
cell_at cells (call.Expr it) = cells.expr it.now
cell_at cells (call.InvalidExpr it) = cells.invalid_expr it.now
cell_at cells (call.Meta it) = cells.meta it.now
cell_at cells (call.NestedMeta it) = cells.nested_meta it.now
cell_at cells call.Absent = option_map Value cells.none

-- the error has the faults of the cell; want of memory is free
abbrev pub FailsCell : {A : Type 0} → Fail → Option (Outcome A) → Type 0
FailsCell (fails.Faults error) cell = cell ≡ Some (refusal error)
FailsCell fails.NoMemory cell = Unit {0}

-- the value is the cell's, and nothing is found exactly where there is no cell
abbrev pub FindsCell : {X A : Type 0} → (X → A) → Option X → Option (Outcome A) → Type 0
FindsCell seen None cell = cell ≡ None
FindsCell seen (Some x) cell = cell ≡ Some (Value (seen x))

-- the answer is the cell's, whose value is what is seen of the answer's; or it wants memory
abbrev pub AnswersCell : {X A : Type 0} → (X → A) → Result (Option X) Fail → Option (Outcome A) → Type 0
AnswersCell seen (Ok found) cell = FindsCell seen found cell
AnswersCell seen (Err fail) cell = FailsCell fail cell

-- what is found is the type's value for no item
abbrev pub GivesNone : {X A : Type 0} → (X → A) → Option X → Option A → Type 0
GivesNone seen None none = none ≡ None
GivesNone seen (Some x) none = none ≡ Some (seen x)
