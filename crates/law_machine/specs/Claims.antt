-- What is claimed of programs.
use Rattle.std.specs.Prelude.{◌≡◌, ℕ, List, map, Some, slice_get}
use Rattle.std.specs.List.{AllByRecursion}
use Rattle.node_core.specs.declared.derive.DeriveInput.{DeriveInput}
use Rattle.meta_nested.specs.declared.nested.NestedMeta.{NestedMeta}
use Rattle.meaning_core.specs.HostSays.{HostSays}
use Rattle.codegen_program.specs.declared.program.Func.{Func}
use Rattle.codegen_program.specs.declared.program.Program.{Program}
use Rattle.codegen_program.specs.declared.program.«Unit».{«Unit» as Unit'}
use Rattle.codegen_core.specs.Compiled.{list_stmts}
use Rattle.codegen_core.specs.declared.trait_impl.TraitImpl.{TraitImpl}
use Rattle.codegen_outer.specs.CompiledOuter.{func_stmts}
use Rattle.codegen_outer.specs.Outer.{Outer, input_outer}
use Rattle.codegen_outer.specs.declared.from_derive_impl.FromDeriveInputImpl.{FromDeriveInputImpl}
use Rattle.meaning_core.specs.Decl.{Decl}
use Rattle.machine_steps.specs.Setting.{Setting}
use Rattle.machine_steps.specs.Reads.{Before, metas}
use Rattle.meta_entries.specs.Entries.{named_entries}
use Rattle.meta_entries.specs.declared.entry.Entry.TheVariants as entry
use Rattle.meaning_core.specs.Declarations.{declared_meaning}
use Rattle.meaning_core.specs.Meaning.{struct_meaning}
use Rattle.machine_steps.specs.Asked.{Asked, Items, OnElement}
use Rattle.machine_steps.specs.Progress.{outcome}
use Rattle.machine_steps.specs.Receivers.{Receiver, receiver_of}
use Rattle.machine_steps.specs.Statements.{run}
use Rattle.machine_execute.specs.Machine.{is_from_derive_input, machine, run_func, setting_of, unit_cells}
use Rattle.error_fault.specs.Outcome.{Outcome}
use Rattle.machine_value.specs.declared.value.Value.{Value as Datum}
use Rattle.machine_execute.specs.Elements.{Element, HasOutcome, OnInput}
use Rattle.meaning_core.specs.DeclaredElements.{declared_element_meaning}
use Rattle.meaning_core.specs.ElementMeaning.{element_meaning}
use Rattle.meaning_core.specs.Elements.{OuterDecl}
use Rattle.law_machine.specs.ElementDecls.{IsElementDecl, IsElementUnit, TakesNoBody}
use Rattle.law_machine.specs.Left.{IsLeftInput, IsLeftMeta, IsLeftUnit}
use Rattle.law_machine.specs.Kinds.{IsOfKind}
use Rattle.meaning_core.specs.MetaCells.{meta_cells}
use Rattle.meaning_core.specs.Receivers.{MetaDecl}
use Rattle.law_machine.specs.Compiles.{AreMetaUnits, IsBraced, IsDecl, IsInputDecl, IsInputUnit, IsMetaUnit}

-- the function that reads a list has an outcome, and it is what the items mean
abbrev pub ListIsMeaning : Type 0
ListIsMeaning =
    (setting : Setting) (before : Before) (receiver : Receiver) (left : TraitImpl) (decl : Decl) (items : List NestedMeta)
    → IsDecl left decl → receiver.type ≡ decl.type
    → outcome (run setting before receiver (list_stmts left) (Items items)) ≡ Some (struct_meaning setting (metas before) decl (map entry.Item items))

-- the function that reads an item of a text has an outcome, and it is what the attributes of the item mean, where the
-- receiver is declared with braces
abbrev pub InputIsMeaning : Type 0
InputIsMeaning =
    (setting : Setting) (before : Before) (receiver : Receiver) (left : FromDeriveInputImpl) (decl : Decl) (input : DeriveInput)
    → IsInputDecl left decl → receiver.type ≡ decl.type → IsBraced receiver.decl
    → outcome (run setting before receiver (func_stmts (input_outer left)) (OnElement (OnInput input)))
    ≡ Some (struct_meaning setting (metas before) decl (named_entries decl.attributes input.attrs))

-- the function that reads an element has an outcome, and it is what the element means
abbrev pub ElementIsMeant : Type 0
ElementIsMeant =
    (setting : Setting) (before : Before) (receiver : Receiver) (left : Outer) (decl : OuterDecl) (element : Element)
    → IsElementDecl receiver left decl
    → outcome (run setting before receiver (func_stmts left) (OnElement element)) ≡ Some (element_meaning setting before decl element)

-- what a unit reads of metas under `FromMeta`, whatever the declarations before it read, is what the declaration reads
abbrev pub CellsAreMeant : Type 0
CellsAreMeant =
    (setting : Setting) (before : Before) (unit : Unit') (it : MetaDecl)
    → IsMetaUnit setting.decls (Some unit) (Some it) → unit_cells setting before unit ≡ meta_cells setting (metas before) it

-- On any item, the unit of a declaration gives what the item means under it, where each declaration that metas are read as has
-- its unit, and the declaration of its own number has braces.
abbrev pub ProgramIsMeaning : Type 0
ProgramIsMeaning =
    (host : HostSays) (program : Program) (unit : Unit') (decls : List MetaDecl) (decl : Decl) (input : DeriveInput)
    → AreMetaUnits program.decls program.units decls → IsInputUnit unit decl → IsBraced (slice_get program.decls unit.decl)
    → machine host program unit input ≡ Some (declared_meaning (setting_of host program) decls decl input)

-- On any item, the unit of a declaration that takes neither the body nor the generics gives what the item means under it, where
-- each declaration that metas are read as has its unit; its fields may have the types of declarations below it.
abbrev pub ElementsAreMeant : Type 0
ElementsAreMeant =
    (host : HostSays) (program : Program) (unit : Unit') (metas : List MetaDecl) (outers : List OuterDecl) (decl : OuterDecl) (input : DeriveInput)
    → AreMetaUnits program.decls program.units metas → IsElementUnit (setting_of host program) unit decl → TakesNoBody decl
    → machine host program unit input ≡ Some (declared_element_meaning (setting_of host program) metas outers decl (OnInput input))

-- the function of a unit has an outcome on whatever it is asked
abbrev pub HasOutcomes : Setting → Before → Unit' → Func → Type 0
HasOutcomes setting before unit func =
    (asked : Asked) → (found : Outcome Datum) × (outcome (run setting before (receiver_of setting unit) func.stmts asked) ≡ Some found)

-- each function of a unit of `FromMeta` that options leave has, whatever the declarations before it read
abbrev pub MetaFuncsHaveOutcomes : Type 0
MetaFuncsHaveOutcomes =
    (setting : Setting) (before : Before) (unit : Unit') → IsLeftMeta unit → AllByRecursion (HasOutcomes setting before unit) unit.funcs

-- so has the function that reads an item of a text, of a unit of `FromDeriveInput`
abbrev pub InputsHaveOutcomes : Type 0
InputsHaveOutcomes =
    (setting : Setting) (before : Before) (unit : Unit') (input : DeriveInput) → IsLeftInput unit
    → (found : Outcome Datum) × (run_func setting before is_from_derive_input unit (OnElement (OnInput input)) ≡ Some found)

-- a unit that options leave can be run on each element of its kind
abbrev pub UnitsCanBeRun : Type 0
UnitsCanBeRun =
    (host : HostSays) (program : Program) (number : ℕ) (unit : Unit') (element : Element)
    → slice_get program.units number ≡ Some unit → IsLeftUnit unit → IsOfKind unit.derive element → HasOutcome host program number element
