-- The units of a program read what their declarations mean.
use Rattle.std.proofs.Common.{◌≡◌, ℕ, zero, suc, ◌==◌, Bool, true, false, List, cond, Option, Some, None, refl, ap, ◌∙◌, sym}
use mathlib.Core.Path.{fun_ext}
use Rattle.meta_entries.specs.Entries.{named_entries}
use Rattle.meta_entries.specs.declared.entry.Entry.{Entry}
use Rattle.codegen_program.specs.declared.program.Derive.TheVariants as derives
use Rattle.codegen_program.specs.declared.program.«Unit».{«Unit» as Unit'}
use Rattle.codegen_outer.specs.CompiledOuter.{compiled_derive_input}
use Rattle.machine_steps.specs.Asked.{OnElement}
use Rattle.machine_execute.specs.Elements.{OnInput}
use Rattle.machine_execute.specs.Machine.{cells_by, earlier_units, is_from_derive_input, run_func, setting_of, unit_reads, unit_under, unit_type}
use Rattle.machine_steps.specs.Reads.{Before, metas}
use Rattle.machine_steps.specs.Receivers.{declared_style, receiver_of}
use Rattle.machine_steps.specs.Setting.{Setting}
use Rattle.meaning_core.specs.Declarations.{declared_cells, earlier_decls, meta_decl}
use Rattle.meaning_core.specs.Meaning.{struct_meaning}
use Rattle.meaning_core.specs.Receivers.{MetaDecl}
use Rattle.law_machine.specs.Claims.{ProgramIsMeaning}
use Rattle.law_machine.specs.Compiles.{AreMetaUnits, IsMetaUnit}
use Rattle.law_machine.proofs.Cells.{cells_are_meant}
use Rattle.law_machine.proofs.Units.{input_is_meaning}

module _ (setting : Setting) where
  cells_are : (before : Before) (unit : Option Unit') (decl : Option MetaDecl) → IsMetaUnit setting.decls unit decl → cells_by setting before unit ≡ declared_cells setting (metas before) decl
  cells_are before None None same = refl
  cells_are before None (Some decl) same = absurd same
  cells_are before (Some unit) None same = absurd same
  cells_are before (Some unit) (Some decl) same = cells_are_meant setting before unit decl same

  module _ (units : List Unit') (decls : List MetaDecl) (are : AreMetaUnits setting.decls units decls) where
    -- the number at the bound, or one below it
    chosen : (test : Bool) (bound number : ℕ) → metas (earlier_units setting units bound) ≡ earlier_decls setting decls bound
        → (cond test (unit_reads setting units (earlier_units setting units bound) bound) (earlier_units setting units bound number)).cells
        ≡ cond test (declared_cells setting (earlier_decls setting decls bound) (meta_decl decls bound)) (earlier_decls setting decls bound number)
    chosen true bound number same =
        cells_are (earlier_units setting units bound) (unit_under units bound derives.FromMeta) (meta_decl decls bound) (are bound)
        ∙ ap (λ earlier. declared_cells setting earlier (meta_decl decls bound)) same
    chosen false bound number same = ap (λ earlier. earlier number) same

    pub earlier_is : (bound : ℕ) → metas (earlier_units setting units bound) ≡ earlier_decls setting decls bound
    earlier_is zero = refl
    earlier_is (suc bound) = fun_ext (λ number. chosen (number == bound) bound number (earlier_is bound))

pub program_is_meaning : ProgramIsMeaning
program_is_meaning host program unit decls decl input are (left, compiled, left_is, type_is) braced =
    let setting = setting_of host program in
    let before = earlier_units setting program.units decl.number in
    let entries : List Entry = named_entries decl.attributes input.attrs in
    ap (λ u. run_func setting (earlier_units setting program.units u.decl) is_from_derive_input u (OnElement (OnInput input))) compiled
    ∙ input_is_meaning setting before (receiver_of setting (compiled_derive_input left decl.number)) left decl input left_is (sym (ap unit_type compiled) ∙ type_is)
    (ap (λ u. declared_style (receiver_of setting u).decl) (sym compiled) ∙ braced)
    ∙ ap (λ e. Some (struct_meaning setting e decl entries)) (earlier_is setting program.units decls are decl.number)
