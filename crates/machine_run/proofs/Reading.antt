-- Reads from the items that were kept, and runs of functions.
use Rattle.std.proofs.Common.{◌≡◌, List, Option, Some, Result, IfOk, ap, ap₂, option_map, ◌∙◌}
use Rattle.std.specs.Prelude.{Bool, ℕ, option_and_then, slice_get}
use Rattle.std.specs.Result.{OnOk}
use Rattle.std.proofs.lemmas.Result.{on_ok_weaker}
use Rattle.base_core.specs.declared.text.Text.{Text}
use Rattle.tok_types.specs.Ident.{ident_text}
use Rattle.node_expr.specs.declared.ty.«Type».{«Type» as Type'}
use Rattle.node_core.specs.declared.derive.DeriveInput.{DeriveInput}
use Rattle.error_core.specs.Answers.{Answers}
use Rattle.error_core.specs.ErrorView.{ErrorView}
use Rattle.error_core.specs.declared.fail.Fail.{Fail}
use Rattle.error_fault.specs.Outcome.{Outcome, with_siblings}
use Rattle.machine_read.specs.NestedMeta.{NestedMeta}
use Rattle.machine_value.specs.declared.value.Value.{Value as Datum}
use Rattle.codegen_program.specs.declared.program.FuncName.{FuncName}
use Rattle.codegen_program.specs.declared.program.«Unit».{«Unit» as Unit'}
use Rattle.codegen_program.specs.declared.stmt.Stmt.{Stmt}
use Rattle.machine_read.specs.Setting.{Setting}
use Rattle.machine_read.specs.Convert.{Earlier, list}
use Rattle.machine_read.specs.Machine.{run_func, stmts_named}
use Rattle.machine_read.specs.Asked.{Asked}
use Rattle.machine_read.specs.Progress.{outcome}
use Rattle.machine_read.specs.Reads.{Before}
use Rattle.machine_read.specs.Receivers.{Receiver, receiver_of, unit_type}
use Rattle.machine_read.specs.Slots.{read_flat, read_slot, slot_type}
use Rattle.machine_read.specs.State.{Slot, State, put}
use Rattle.machine_read.specs.Statements.{run}
use Rattle.machine_state.specs.Seen.{Change, answered}
use Rattle.machine_state.proofs.Steps.{ok_same}

module _ (setting : Setting) (earlier : Earlier) where
  -- a slot that is read from the items that were kept
  pub kept_read : (names : List Text) (type : Type') (items kept : List NestedMeta) (slot : Slot) (answer : Result Datum Fail) (change : Change)
      → type ≡ slot_type slot → items ≡ kept → Answers (λ it. it) answer (list setting earlier type items)
      → ((outcome : Outcome Datum) → Answers (λ it. it) answer outcome → change ≡ read_slot type (with_siblings names outcome))
      → change ≡ read_flat setting earlier names kept slot
  kept_read names type items kept slot answer change same all answers reads =
      reads (list setting earlier type items) answers
      ∙ ap₂ (λ (type : Type') (items : List NestedMeta). read_slot type (with_siblings names (list setting earlier type items))) same all

module _ (setting : Setting) (before : Before) where
  -- the outcome of statements of a unit
  pub ran : {E : Type 0} (result : Result (Option (Result Datum ErrorView)) E) (unit : Unit') (asked : Asked) (stmts : List Stmt) (type : Type') (decl : Option DeriveInput)
      → type ≡ unit_type unit → decl ≡ slice_get setting.decls unit.decl
      → IfOk result (λ it. option_map answered it ≡ outcome (run setting before (record { type = type; name = ident_text unit.ident; derive = unit.derive; decl = decl }) stmts asked))
      → IfOk result (λ it. option_map answered it ≡ outcome (run setting before (receiver_of setting unit) stmts asked))
  ran result unit asked stmts type decl same found known =
      let made : Type' → Option DeriveInput → Receiver = λ type decl. record { type = type; name = ident_text unit.ident; derive = unit.derive; decl = decl } in
      ok_same result (option_map answered) (outcome (run setting before (made type decl) stmts asked)) (outcome (run setting before (receiver_of setting unit) stmts asked))
      (ap₂ (λ type decl. outcome (run setting before (made type decl) stmts asked)) same found) known

  -- and of the function that has them
  pub named_ran : {E : Type 0} (result : Result (Option (Result Datum ErrorView)) E) (such : FuncName → Bool) (unit : Unit') (asked : Asked) (stmts : List Stmt)
      → Some stmts ≡ stmts_named such unit.funcs
      → IfOk result (λ it. option_map answered it ≡ outcome (run setting before (receiver_of setting unit) stmts asked))
      → IfOk result (λ it. option_map answered it ≡ run_func setting before such unit asked)
  named_ran result such unit asked stmts named known =
      ok_same result (option_map answered) (outcome (run setting before (receiver_of setting unit) stmts asked)) (run_func setting before such unit asked)
      (ap (option_and_then (λ stmts. outcome (run setting before (receiver_of setting unit) stmts asked))) named) known

-- what is put in the state that a slot was taken out of is put in that before
pub put_back : {E : Type 0} (result : Result (Unit {0}) E) (after taken old : State) (place : ℕ) (done change : Change)
    → OnOk result (after ≡ put place done taken) → ((change : Change) → put place change taken ≡ put place change old) → done ≡ change
    → OnOk result (after ≡ put place change old)
put_back result after taken old place done change is others same =
    on_ok_weaker result (λ e. e ∙ others done ∙ ap (λ it. put place it old) same) is
