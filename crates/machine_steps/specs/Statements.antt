-- What each statement does.
use Rattle.std.specs.Prelude.{◌≡◌, ℕ, false, List, [], ◌++◌, fold, map, Option, Some, None}
use Rattle.base_core.specs.declared.text.Text.{Text}
use Rattle.node_expr.specs.declared.ty.«Type».{«Type» as Type'}
use Rattle.meta_nested.specs.declared.nested.NestedMeta.{NestedMeta}
use Rattle.error_fault.specs.declared.fault.Fault.{Fault}
use Rattle.error_fault.specs.Faults.{at}
use Rattle.error_fault.specs.Outcome.{Outcome, Value}
use Rattle.machine_host.specs.Seen.{SeenArg, NothingSeen}
use Rattle.machine_host.specs.declared.place.Use.TheVariants as use_at
use Rattle.machine_value.specs.declared.value.Value.{Value as Datum}
use Rattle.codegen_program.specs.declared.init.DefaultSource.{DefaultSource}
use Rattle.codegen_program.specs.declared.init.DefaultSource.TheVariants as sources
use Rattle.codegen_program.specs.declared.stmt.Stmt.{Stmt, fold-Stmt}
use Rattle.codegen_program.specs.declared.stmt.Stmt.TheOpen.{Stmt-F}
use Rattle.machine_steps.specs.Asked.{Asked, Items, attributes_asked, element_asked, items_asked, text_asked}
use Rattle.machine_steps.specs.Attributes.{on_attribute}
use Rattle.machine_steps.specs.Building.{build_step, ident_seen}
use Rattle.machine_steps.specs.Calls.{call, delegate}
use Rattle.machine_steps.specs.Convert.{default}
use Rattle.machine_steps.specs.Elements.{Element, OnNested, OnAttributes}
use Rattle.machine_steps.specs.Parts.{body_step, forward_done, generics_read, shape_step}
use Rattle.machine_steps.specs.Progress.{Progress, Going, Built, building, going, no_aside, on_outcome, start, unless_faults}
use Rattle.machine_steps.specs.Reading.{transformed}
use Rattle.machine_steps.specs.Reads.{Before, metas}
use Rattle.machine_steps.specs.Receivers.{Receiver}
use Rattle.machine_steps.specs.Setting.{Setting, answer, ask, outcome_of}
use Rattle.machine_steps.specs.Slots.{read_flat, check_missing}
use Rattle.machine_steps.specs.State.{Slot, One, Several, State, declared, put, slot_at, step}
use Rattle.machine_steps.specs.Variants.{unit_names, variants}

-- what a statement makes of the progress of a run
abbrev pub Doing : Type 0
Doing = Asked → Progress → Progress

-- one after another
abbrev pub all_do : List Doing → Doing
all_do doings asked progress = fold (λ progress doing. doing asked progress) progress doings

-- what statements make of the items of a list, from the start
abbrev pub inside : List Doing → List NestedMeta → Progress
inside doings items = all_do doings (Items items) (Going start no_aside)

-- the state alone goes on
abbrev pub moving : (State → State) → Progress → Progress
moving next = going (λ state aside. Going (next state) aside)

-- the slot of a number
abbrev pub with_slot : ℕ → Slot → State → State
with_slot number slot state = record state { slots = declared number slot state.slots }

-- the faults, located where a name is given
abbrev pub placed : Option Text → List Fault → List Fault
placed None faults = faults
placed (Some name) faults = at faults name

module _ (setting : Setting) (type : Type') where
  -- what an identifier makes, which no callable is asked for
  abbrev pub made_of_ident : SeenArg → Outcome Datum
  made_of_ident seen = outcome_of (answer setting None use_at.FromIdent type seen)

  -- what the identifier of an element makes; without one it is the default of the type
  abbrev pub from_ident : Element → Outcome Datum
  from_ident (OnNested it) = Value (default setting type)
  from_ident (OnAttributes attrs) = Value (default setting type)
  from_ident it = made_of_ident (ident_seen it)

  -- the default of the receiver, which is this type
  abbrev pub source_value : Asked → DefaultSource → Outcome Datum
  source_value asked sources.Trait = Value (default setting type)
  source_value asked (sources.Explicit callable) = ask setting callable use_at.Default type NothingSeen
  source_value asked sources.FromIdent = from_ident (element_asked asked)

module _ (setting : Setting) (before : Before) (receiver : Receiver) where
  -- what a statement does, from what the statements in it do
  abbrev pub stmt_step : Stmt-F Doing → Doing
  stmt_step Stmt-F.DeclareErrors asked = moving (λ state. record state { faults = [] })
  stmt_step (Stmt-F.DeclareOne number ident ty) asked = moving (with_slot number (One ty false None))
  stmt_step (Stmt-F.DeclareMany number ident ty) asked = moving (with_slot number (Several ty []))
  stmt_step Stmt-F.DeclareBuffer asked = moving (λ state. record state { kept = [] })
  stmt_step (Stmt-F.DeclareForward ident) asked = going (λ state aside. Going state (record aside { kept = [] }))
  stmt_step (Stmt-F.ForAttributes names items forward) asked =
      λ progress. fold (on_attribute (λ list. all_do items (Items list)) names forward) progress (attributes_asked asked)
  stmt_step (Stmt-F.ForwardDone ident with) asked = going (forward_done setting before receiver (element_asked asked) ident with)
  stmt_step (Stmt-F.ForItems arms rest) asked = moving (λ state. fold (step setting (metas before) arms rest) state (items_asked asked))
  stmt_step (Stmt-F.ReadFlatten number names) asked =
      moving (λ state. put number (read_flat setting (metas before) names state.kept (slot_at state.slots number)) state)
  stmt_step (Stmt-F.CheckMissing number ty name) asked =
      moving (λ state. put number (check_missing setting (metas before) ty name (slot_at state.slots number)) state)
  stmt_step (Stmt-F.CheckErrors location) asked = going (λ state aside. unless_faults (placed location state.faults) state aside)
  stmt_step (Stmt-F.SetDefault source) asked =
      going (λ state aside. on_outcome (source_value setting receiver.type asked source) (λ whole. Going (record state { whole = whole }) aside))
  stmt_step (Stmt-F.Build name variant forwarded inits) asked = build_step setting receiver asked name variant forwarded inits
  stmt_step (Stmt-F.Transform post) asked = building (transformed setting (metas before) (Some post) receiver.type)
  stmt_step (Stmt-F.CheckShape shapes) asked = shape_step shapes (element_asked asked)
  stmt_step (Stmt-F.ReadBody ident with) asked = body_step setting before receiver (element_asked asked) ident with
  stmt_step (Stmt-F.ReadGenerics ident with) asked = going (generics_read setting before receiver (element_asked asked) ident with)
  stmt_step (Stmt-F.Delegate name member ty) asked = going (λ state aside. Built (delegate setting before name member ty asked))
  stmt_step (Stmt-F.Variants arms names) asked = going (λ state aside. variants setting (metas before) receiver.name inside names arms (items_asked asked))
  stmt_step (Stmt-F.UnitNames arms names) asked =
      going (λ state aside. Built (unit_names setting (metas before) receiver.name names arms (text_asked asked)))
  stmt_step (Stmt-F.Call callable at) asked = going (λ state aside. call setting receiver callable at asked)

  abbrev pub does : Stmt → Doing
  does = fold-Stmt Doing stmt_step

  -- these statements, one after another
  abbrev pub run_from : List Stmt → Doing
  run_from stmts = all_do (map does stmts)

  -- a function of these statements, from the start
  abbrev pub run : List Stmt → Asked → Progress
  run stmts asked = run_from stmts asked (Going start no_aside)

-- statements behind others go on from where those came to
abbrev pub RunInOrder : Type 0
RunInOrder =
    (setting : Setting) (before : Before) (receiver : Receiver) (first second : List Stmt) (asked : Asked) (progress : Progress)
    → run_from setting before receiver (first ++ second) asked progress ≡ run_from setting before receiver second asked (run_from setting before receiver first asked progress)
