-- The unit of a program reads elements as they are meant, where neither their body nor their generics are taken.
use Rattle.std.proofs.Common.{◌≡◌, ℕ, zero, suc, ◌==◌, Bool, true, false, cond, List, [], ◌∷◌, ◌++◌, Some, refl, ap, ap₂, ◌∙◌, sym, subst, unwrap_or}
use mathlib.Core.Path.{fun_ext}
use Rattle.std.specs.List.{AllByRecursion}
use Rattle.base_core.specs.declared.text.Text.{Text}
use Rattle.node_core.specs.declared.style.Style.{Style}
use Rattle.error_fault.specs.declared.fault.Fault.{Fault}
use Rattle.error_fault.specs.Outcome.{Outcome, bind, on_value, settle, value_of}
use Rattle.codegen_program.specs.declared.forwarded.Magic.{Magic}
use Rattle.codegen_program.specs.declared.forwarded.Magic.TheVariants as magic
use Rattle.codegen_outer.specs.CompiledOuter.{compiled_derive_input}
use Rattle.codegen_outer.specs.Outer.{input_outer}
use Rattle.machine_value.specs.Members.{no_value}
use Rattle.machine_value.specs.declared.value.Value.{Value as Datum}
use Rattle.machine_value.specs.declared.value.Value.TheVariants as value
use Rattle.machine_execute.specs.Machine.{earlier_units, is_from_derive_input, run_func, setting_of}
use Rattle.machine_steps.specs.Asked.{OnElement}
use Rattle.machine_steps.specs.Convert.{Earlier}
use Rattle.machine_steps.specs.Elements.{Element, OnInput, attributes_of}
use Rattle.machine_steps.specs.Reading.{transformed}
use Rattle.machine_steps.specs.Reads.{Before, metas}
use Rattle.machine_steps.specs.Receivers.{receiver_of}
use Rattle.machine_steps.specs.Setting.{Setting}
use Rattle.machine_steps.specs.Shapes.{shape_faults}
use Rattle.meta_entries.specs.Entries.{named_entries}
use Rattle.meta_entries.specs.declared.entry.Entry.{Entry}
use Rattle.meaning_core.specs.DeclaredElements.{declared_reads, earlier_reads}
use Rattle.meaning_core.specs.Declarations.{declared_cells, earlier_decls, meta_decl}
use Rattle.meaning_core.specs.ElementMeaning.{body_faults, element_faults, form_meaning, members_meaning, outcome_at, own_default, part_faults, part_value, woven}
use Rattle.meaning_core.specs.Elements.{AsOne, ByMembers, Member, OfElement, OfItems, OuterDecl, OuterForm, PartDecl, element_parts, is_attrs, is_body, is_generics, is_ident, items_decl}
use Rattle.meaning_core.specs.Meaning.{collected_with, field_values}
use Rattle.meaning_core.specs.Receivers.{MetaDecl}
use Rattle.law_machine.specs.Claims.{ElementsAreMeant}
use Rattle.law_machine.specs.ElementDecls.{FormTakesNoBody, IsElementDecl, parts_that}
use Rattle.law_machine.proofs.ElementParts.{all_that, attrs_faults, body_at, faults_all, generics_at, generics_faults, ident_faults, body_faults as body_faults_are}
use Rattle.law_machine.proofs.Elements.{element_is_meant}
use Rattle.law_machine.proofs.Programs.{earlier_is}

-- ---- what metas read decides

module _ (setting : Setting) (first second : Before) (decl : OuterDecl) (element : Element) where
  -- no part that is neither the body nor generics rests on what is read before
  outcome_same : (part : PartDecl) (what : Magic) → (is_body what ≡ true → ⊥) → (is_generics what ≡ true → ⊥)
      → outcome_at setting first decl element part what ≡ outcome_at setting second decl element part what
  outcome_same part magic.Ident no_body no_generics = refl
  outcome_same part magic.Attrs no_body no_generics = refl
  outcome_same part magic.Vis no_body no_generics = refl
  outcome_same part magic.Generics no_body no_generics = absurd (no_generics refl)
  outcome_same part magic.Body no_body no_generics = absurd (no_body refl)
  outcome_same part magic.Ty no_body no_generics = refl
  outcome_same part magic.Discriminant no_body no_generics = refl
  outcome_same part magic.Fields no_body no_generics = absurd (no_body refl)
  outcome_same part magic.Bounds no_body no_generics = refl
  outcome_same part magic.Default no_body no_generics = refl

  woven_same : (members : List Member) (values : List Datum)
      → AllByRecursion (λ part. is_body part.what ≡ true → ⊥) (element_parts members) → AllByRecursion (λ part. is_generics part.what ≡ true → ⊥) (element_parts members)
      → woven (part_value setting first decl element) members values ≡ woven (part_value setting second decl element) members values
  woven_same [] values no_body no_generics = refl
  woven_same (OfElement part ∷ members) values no_body no_generics =
      ap₂ (λ it more. (part.member, unwrap_or (value_of it) no_value) ∷ more) (outcome_same part part.what no_body.0 no_generics.0) (woven_same members values no_body.1 no_generics.1)
  woven_same (OfItems field ∷ members) [] no_body no_generics = refl
  woven_same (OfItems field ∷ members) (it ∷ values) no_body no_generics = ap (λ more. (field.member, it) ∷ more) (woven_same members values no_body no_generics)

  module _ (members : List Member) (no_body : parts_that is_body (element_parts members) ≡ []) (no_generics : parts_that is_generics (element_parts members) ≡ []) where
    abbrev parts : List PartDecl
    parts = element_parts members

    none_that : (such : Magic → Bool) → parts_that such parts ≡ [] → AllByRecursion (λ part. such part.what ≡ true → ⊥) parts
    none_that such none = all_that (λ part. such part.what) (λ part. ⊥) parts (subst (AllByRecursion (λ part. ⊥)) (sym none) tt)

    attrs_same : part_faults setting first decl element is_attrs parts ≡ part_faults setting second decl element is_attrs parts
    attrs_same = attrs_faults setting first decl element parts ∙ sym (attrs_faults setting second decl element parts)

    ident_same : part_faults setting first decl element is_ident parts ≡ part_faults setting second decl element is_ident parts
    ident_same = ident_faults setting first decl element parts ∙ sym (ident_faults setting second decl element parts)

    body_same : part_faults setting first decl element is_body parts ≡ part_faults setting second decl element is_body parts
    body_same =
        body_faults_are setting first decl element parts
        ∙ ap (faults_all (body_at setting first decl element)) no_body
        ∙ sym (ap (faults_all (body_at setting second decl element)) no_body)
        ∙ sym (body_faults_are setting second decl element parts)

    generics_same : part_faults setting first decl element is_generics parts ≡ part_faults setting second decl element is_generics parts
    generics_same =
        generics_faults setting first decl element parts
        ∙ ap (faults_all (generics_at setting first decl element)) no_generics
        ∙ sym (ap (faults_all (generics_at setting second decl element)) no_generics)
        ∙ sym (generics_faults setting second decl element parts)

    shape_same : (shape : List Fault) → body_faults setting first decl element parts shape ≡ body_faults setting second decl element parts shape
    shape_same [] = body_same
    shape_same (fault ∷ more) = refl

    faults_same : element_faults setting first decl element parts ≡ element_faults setting second decl element parts
    faults_same = ap₂ (λ a b. a ++ b) attrs_same (ap₂ (λ a b. a ++ b) (shape_same (shape_faults decl.shapes element)) generics_same)

    -- what members mean, by what is read of metas, the faults around the entries, those of the identifier, and the order of all
    abbrev meaning_by : Style → List Entry → Earlier → (outer ident : List Fault) → (List Datum → List (Text × Datum)) → Outcome Datum
    meaning_by how entries earlier outer ident order =
        settle (collected_with setting earlier (items_decl decl members) outer entries)
        (transformed setting earlier decl.transform decl.type
        (bind (own_default setting first decl element) (λ whole.
        settle ident (on_value (λ values. value.Struct decl.name how (order values)) (field_values setting earlier (items_decl decl members) whole entries)))))

    members_same : (how : Style) (entries : List Entry) → metas first ≡ metas second
        → members_meaning setting first decl element how members entries ≡ members_meaning setting second decl element how members entries
    members_same how entries same =
        let order : List Datum → List (Text × Datum) = woven (part_value setting first decl element) members in
        let ident = part_faults setting first decl element is_ident parts in
        let outer = element_faults setting first decl element parts in
        ap (λ earlier. meaning_by how entries earlier outer ident order) same
        ∙ ap₂ (λ outer ident. meaning_by how entries (metas second) outer ident order) faults_same ident_same
        ∙ ap (meaning_by how entries (metas second) (element_faults setting second decl element parts) (part_faults setting second decl element is_ident parts))
        (fun_ext (λ values. woven_same members values (none_that is_body no_body) (none_that is_generics no_generics)))

  form_same : (form : OuterForm) → FormTakesNoBody form → metas first ≡ metas second
      → form_meaning setting first decl element form ≡ form_meaning setting second decl element form
  form_same (ByMembers how members) none same = members_same members none.0 none.1 how (named_entries decl.attributes (attributes_of element)) same
  form_same (AsOne member type) none same = absurd none

-- ---- what declarations read of metas

module _ (setting : Setting) (decls : List MetaDecl) (outers : List OuterDecl) where
  -- the number at the bound, or one below it
  chosen : (test : Bool) (bound number : ℕ) → metas (earlier_reads setting decls outers bound) ≡ earlier_decls setting decls bound
      → (cond test (declared_reads setting decls outers (earlier_reads setting decls outers bound) bound) (earlier_reads setting decls outers bound number)).cells
      ≡ cond test (declared_cells setting (earlier_decls setting decls bound) (meta_decl decls bound)) (earlier_decls setting decls bound number)
  chosen true bound number same = ap (λ earlier. declared_cells setting earlier (meta_decl decls bound)) same
  chosen false bound number same = ap (λ earlier. earlier number) same

  pub metas_are : (bound : ℕ) → metas (earlier_reads setting decls outers bound) ≡ earlier_decls setting decls bound
  metas_are zero = refl
  metas_are (suc bound) = fun_ext (λ number. chosen (number == bound) bound number (metas_are bound))

pub elements_are_meant : ElementsAreMeant
elements_are_meant host program unit decls outers decl input are (left, compiled, is) none =
    let setting = setting_of host program in
    let before = earlier_units setting program.units decl.number in
    let element = OnInput input in
    ap (λ u. run_func setting (earlier_units setting program.units u.decl) is_from_derive_input u (OnElement element)) compiled
    ∙ element_is_meant setting before (receiver_of setting (compiled_derive_input left decl.number)) (input_outer left) decl element
    (subst (λ u. IsElementDecl (receiver_of setting u) (input_outer left) decl) compiled is)
    ∙ ap (λ it. Some it)
    (form_same setting before (earlier_reads setting decls outers decl.number) decl element decl.form none
    (earlier_is setting program.units decls are decl.number ∙ sym (metas_are setting decls outers decl.number)))
