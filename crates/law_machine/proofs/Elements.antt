-- A unit of a derive that reads elements gives what they mean.
use Rattle.std.proofs.Common.{◌≡◌, zero, suc, ℕ, Bool, true, false, cond, List, [], ◌∷◌, ◌++◌, map, Option, Some, None, is_some, option_map, refl, ap, ap₂, ◌∙◌, sym, subst, append-nil, inl, inr}
use mathlib.Core.Path.{fun_ext}
use Rattle.std.specs.List.{AllByRecursion}
use Rattle.std.specs.Option.{option_copied}
use Rattle.base_core.specs.declared.text.Text.{Text}
use Rattle.tok_types.specs.Ident.{ident_text}
use Rattle.node_make.specs.PathText.{path_text}
use Rattle.node_expr.specs.declared.ty.«Type».{«Type» as Type'}
use Rattle.node_core.specs.declared.attr.Attribute.{Attribute}
use Rattle.node_core.specs.declared.style.Style.{Style}
use Rattle.body_core.specs.declared.ast.data.«Data».{«Data»}
use Rattle.body_core.specs.declared.ast.data.«Data».TheVariants as body
use Rattle.meta_nested.specs.declared.nested.NestedMeta.{NestedMeta}
use Rattle.error_fault.specs.declared.fault.Fault.{Fault}
use Rattle.error_fault.specs.Outcome.{Outcome, Value, Faults, bind, on_value, settle, value_of}
use Rattle.options_types.specs.declared.forwarded_field.ForwardedField.{ForwardedField}
use Rattle.codegen_program.specs.declared.arm.PostfixTransform.{PostfixTransform}
use Rattle.codegen_program.specs.declared.forward.Forward.{Forward}
use Rattle.codegen_program.specs.declared.forwarded.Magic.{Magic}
use Rattle.codegen_program.specs.declared.stmt.Stmt.{Stmt}
use Rattle.codegen_core.specs.Compiled.{closing_with, default_of, fields_of, transform}
use Rattle.codegen_core.specs.Variants.{member_name}
use Rattle.codegen_core.specs.Fields.{declarations, inits}
use Rattle.codegen_core.specs.declared.field.Field.{Field}
use Rattle.codegen_core.specs.declared.variant.Variant.{Variant}
use Rattle.codegen_outer.specs.CompiledOuter.{func_stmts, outer_stmts, over_attributes, stmts_by, stmts_in, whole_stmts}
use Rattle.codegen_outer.specs.Forwarding.{declare_forward, forward_done, forward_of}
use Rattle.codegen_outer.specs.Outer.{Outer}
use Rattle.machine_value.specs.Members.{labelled}
use Rattle.machine_value.specs.declared.value.Value.{Value as Datum}
use Rattle.machine_value.specs.declared.value.Value.TheVariants as value
use Rattle.machine_steps.specs.Asked.{Asked, OnElement}
use Rattle.machine_steps.specs.Attributes.{attrs_outcome}
use Rattle.machine_steps.specs.Building.{alone, are_stored, built_of, part_named, part_value as taken_value, woven as woven_by_names}
use Rattle.machine_steps.specs.Elements.{Element, attributes_of}
use Rattle.machine_steps.specs.Outer.{outer as read_by_type}
use Rattle.machine_steps.specs.Parts.{are_some, body_outcome, generics_outcome}
use Rattle.machine_steps.specs.Progress.{Aside, Progress, Going, Built, no_aside, outcome, start}
use Rattle.machine_steps.specs.Reading.{transformed}
use Rattle.machine_steps.specs.Reads.{Before, metas}
use Rattle.machine_steps.specs.Receivers.{Receiver, declared_fields}
use Rattle.machine_steps.specs.Setting.{Setting}
use Rattle.machine_steps.specs.Shapes.{shape_faults}
use Rattle.machine_steps.specs.State.{State, with_faults}
use Rattle.machine_steps.specs.Statements.{from_ident as made_from_ident, run, run_from}
use Rattle.machine_steps.proofs.Statements as statement
use Rattle.meta_entries.specs.Entries.{items, named_entries}
use Rattle.meta_entries.specs.declared.entry.Entry.{Entry}
use Rattle.meaning_core.specs.Decl.{Decl, FieldDecl, has_flat}
use Rattle.meaning_core.specs.ElementMeaning.{body_faults, built_members, element_faults, form_meaning, kept_attributes, members_meaning, own_default, part_faults, part_value, woven}
use Rattle.meaning_core.specs.Elements.{AsOne, ByMembers, Member, OuterDecl, OuterForm, PartDecl, element_parts, is_attrs, is_body, is_generics, is_ident, item_fields}
use Rattle.meaning_core.specs.EntryFaults.{all_entry_faults}
use Rattle.meaning_core.specs.Meaning.{collected_with, in_order, whole_default}
use Rattle.meaning_core.specs.FieldValue.{field_value}
use Rattle.meaning_core.specs.Owners.{each, own}
use Rattle.meaning_core.specs.Walk.{kept_by, state_behind}
use Rattle.meaning_core.proofs.Clean.{nil_left, nil_right}
use Rattle.law_machine.specs.Claims.{ElementIsMeant}
use Rattle.law_machine.specs.ElementDecls.{AreReads, IsAsOne, IsByMembers, IsElementForm, IsOne, ReadsNothing, ReadsParts, TakesThat, item_decl, parts_that, rows_that, whole_of}
use Rattle.law_machine.specs.Compiles.{IsMember}
use Rattle.law_machine.proofs.Attributes.{over_is}
use Rattle.law_machine.proofs.Building.{default_is, default_made, made, members_are, values_made}
use Rattle.law_machine.proofs.ElementParts.{Agree, AsMany, all_stored, all_that, among_is, are_values, attrs_at, attrs_faults, body_at, faults_found, generics_at, ident_at, ident_bound, ident_faults, taken_faults, taken_stored, taken_values, value_found, weave, body_faults as body_faults_are, generics_faults}
use Rattle.law_machine.proofs.ElementSteps.{attrs_by, body_by, body_value, declares_forward, faults_behind, fills_forward, generics_by, more_faults, no_faults, reads_faults, reads_parts, stood, value_behind}
use Rattle.law_machine.proofs.Passes.{with_slots_kept}
use Rattle.law_machine.proofs.Units.{closed, declared, result, walked}

-- a struct that is not read as its one field is, is read field by field
own_stmts : (left : Outer) (it : «Data» Variant Field) → whole_of left it ≡ None → stmts_in left it ≡ outer_stmts left
own_stmts left (body.Enum variants) own = refl
own_stmts left (body.Struct fields) own = ap (λ field. stmts_by field fields.style left) own

-- ---- there is a value for each field

abbrev Holds : (List Datum → Type 0) → Outcome (List Datum) → Type 0
Holds P (Value values) = P values
Holds P (Faults fault more) = Unit {0}

one_more : (field : FieldDecl) (fields : List FieldDecl) (first : Outcome Datum) (others : Outcome (List Datum)) → Holds (AsMany fields) others
    → Holds (AsMany (field ∷ fields)) (bind first (λ value. on_value (λ values. value ∷ values) others))
one_more field fields (Faults fault more) others are = tt
one_more field fields (Value value) (Faults fault more) are = tt
one_more field fields (Value value) (Value values) are = are

as_many : (at : FieldDecl → List NestedMeta → Outcome Datum) (fields : List FieldDecl) (own_items : ℕ → List NestedMeta) → Holds (AsMany fields) (in_order (each at fields own_items))
as_many at [] own_items = tt
as_many at (field ∷ fields) own_items =
    let later : ℕ → List NestedMeta = λ number. own_items (suc number) in
    one_more field fields (at field (own_items zero)) (in_order (each at fields later)) (as_many at fields later)

on_each : (P : List Datum → Type 0) (first second : List Datum → Datum) (found : Outcome (List Datum)) → Holds P found
    → ((values : List Datum) → P values → first values ≡ second values) → on_value first found ≡ on_value second found
on_each P first second (Value values) holds same = ap Value (same values holds)
on_each P first second (Faults fault more) holds same = refl

-- what stands behind the faults counts where there are none
settled : (faults meant : List Fault) (first second : Outcome Datum) → faults ≡ meant → (meant ≡ [] → first ≡ second) → settle faults first ≡ settle meant second
settled faults [] first second same goes = ap (λ them. settle them first) same ∙ goes refl
settled faults (fault ∷ more) first second same goes = ap (λ them. settle them first) same

module _ (setting : Setting) (before : Before) (receiver : Receiver) (left : Outer) (decl : OuterDecl) (element : Element) (members : List Member) (how : Style) (is : IsByMembers receiver left decl members how) where
  abbrev asked : Asked
  asked = OnElement element

  abbrev go : List Stmt → Progress → Progress
  go stmts progress = run_from setting before receiver stmts asked progress

  abbrev it : Decl
  it = item_decl decl members

  abbrev parts : List PartDecl
  parts = element_parts members

  abbrev kept : List Attribute
  kept = kept_attributes setting before decl element

  abbrev es : List Entry
  es = named_entries decl.attributes (attributes_of element)

  abbrev kept_items : List NestedMeta
  kept_items = kept_by setting (metas before) it.body (has_flat it.body.fields) (items es)

  -- ---- what is stored for a kind of parts

  -- each row that is such has a value, which is that of each part
  abbrev Served : (Magic → Bool) → (PartDecl → Outcome Datum) → Option Datum → Type 0
  Served such at found =
      AllByRecursion (λ row. such row.what ≡ true → is_some found ≡ true) left.parts
      × AllByRecursion (λ part. such part.what ≡ true → found ≡ value_of (at part)) parts

  served : (such : Magic → Bool) (by : ForwardedField → Outcome Datum) (at : PartDecl → Outcome Datum) → Agree receiver by at → (field : Option ForwardedField)
      → TakesThat receiver left decl members such field → faults_found (option_map by field) ≡ [] → Served such at (value_found (option_map by field))
  served such by at agree field takes clean =
      let found = value_found (option_map by field) in (
        all_that (λ row. such row.what) (λ row. is_some found ≡ true) left.parts (taken_stored receiver by at field (rows_that such left.parts) (parts_that such parts) takes clean),
        all_that (λ part. such part.what) (λ part. found ≡ value_of (at part)) parts (taken_values receiver by at agree field (rows_that such left.parts) (parts_that such parts) takes),
      )

  abbrev of_attrs : PartDecl → Outcome Datum
  of_attrs = attrs_at setting before decl element

  abbrev of_body : PartDecl → Outcome Datum
  of_body = body_at setting before decl element

  abbrev of_generics : PartDecl → Outcome Datum
  of_generics = generics_at setting before decl element

  abbrev by_attrs : ForwardedField → Outcome Datum
  by_attrs = attrs_by setting before receiver element kept

  abbrev by_body : ForwardedField → Outcome Datum
  by_body = body_by setting before receiver element

  abbrev by_generics : ForwardedField → Outcome Datum
  by_generics = generics_by setting before receiver element

  attrs_agree : Agree receiver by_attrs of_attrs
  attrs_agree field part with_is type_is = ap₂ (λ with type. attrs_outcome setting with type kept) with_is type_is

  body_agree : Agree receiver by_body of_body
  body_agree field part with_is type_is = ap₂ (λ with type. body_outcome setting before with type element) with_is type_is

  generics_agree : Agree receiver by_generics of_generics
  generics_agree field part with_is type_is = ap₂ (λ with type. generics_outcome setting before with type element) with_is type_is

  body_meant : (field : Option ForwardedField) → TakesThat receiver left decl members is_body field → faults_found (option_map by_body field) ≡ part_faults setting before decl element is_body parts
  body_meant field takes =
      taken_faults receiver by_body of_body body_agree field (rows_that is_body left.parts) (parts_that is_body parts) takes
      ∙ sym (body_faults_are setting before decl element parts)

  generics_meant : (field : Option ForwardedField) → TakesThat receiver left decl members is_generics field
      → faults_found (option_map by_generics field) ≡ part_faults setting before decl element is_generics parts
  generics_meant field takes =
      taken_faults receiver by_generics of_generics generics_agree field (rows_that is_generics left.parts) (parts_that is_generics parts) takes
      ∙ sym (generics_faults setting before decl element parts)

  -- ---- what looks at the shape and reads the body and the generics

  abbrev attrs_field : Option ForwardedField
  attrs_field = option_copied left.forward.field

  abbrev attrs_value : Option Datum
  attrs_value = value_found (option_map by_attrs attrs_field)

  -- what is found, and that the statements find it
  record Found : Type 0 where
    is_other : Bool
    content : Option Datum
    generics : Option Datum
    faults : List Fault
    runs : (s : State) → go left.reads (Going s (stood kept false attrs_value None None)) ≡ Going (with_faults faults s) (stood kept is_other attrs_value content generics)
    meant : faults ≡ body_faults setting before decl element parts (shape_faults decl.shapes element) ++ part_faults setting before decl element is_generics parts
    serves : faults ≡ [] → Served is_body of_body content × Served is_generics of_generics generics

  found_nothing : ReadsNothing receiver left decl members → Found
  found_nothing nothing =
      let generics_are = part_faults setting before decl element is_generics parts in
      record {
        is_other = false;
        content = None;
        generics = None;
        faults = [];
        runs = λ s. ap (λ stmts. go stmts (Going s (stood kept false attrs_value None None))) nothing.reads ∙ ap (λ s. Going s (stood kept false attrs_value None None)) (no_faults s);
        meant =
            ap₂ (λ first second. first ++ second) (body_meant None nothing.body) (generics_meant None nothing.generics)
            ∙ ap (λ spec. body_faults setting before decl element parts (shape_faults spec element) ++ generics_are) (sym nothing.shapes);
        serves = λ e. (served is_body by_body of_body body_agree None nothing.body refl, served is_generics by_generics of_generics generics_agree None nothing.generics refl);
      }

  behind_shape : (shape found : List Fault) → found ≡ part_faults setting before decl element is_body parts → shape ++ faults_behind shape found ≡ body_faults setting before decl element parts shape
  behind_shape [] found same = same
  behind_shape (fault ∷ more) found same = append-nil (fault ∷ more)

  found_parts : (content generics : Option ForwardedField) → ReadsParts receiver left decl members content generics → Found
  found_parts content generics reads =
      let shape = shape_faults decl.shapes element in
      let body_found = faults_found (option_map by_body content) in
      let generics_found = faults_found (option_map by_generics generics) in
      let behind = faults_behind shape body_found in
      let clean_shape : reads_faults setting before receiver element decl.shapes content generics ≡ [] → shape ≡ [] = λ e. nil_left shape behind (nil_left (shape ++ behind) generics_found e) in
      let clean_body : reads_faults setting before receiver element decl.shapes content generics ≡ [] → body_found ≡ [] = λ e.
      sym (ap (λ them. faults_behind them body_found) (clean_shape e)) ∙ nil_right shape behind (nil_left (shape ++ behind) generics_found e) in
      let value_is : reads_faults setting before receiver element decl.shapes content generics ≡ [] → value_found (option_map by_body content) ≡ body_value setting before receiver element decl.shapes content = λ e.
      sym (ap (λ them. value_behind them (value_found (option_map by_body content))) (clean_shape e)) in
      record {
        is_other = are_some shape;
        content = body_value setting before receiver element decl.shapes content;
        generics = value_found (option_map by_generics generics);
        faults = reads_faults setting before receiver element decl.shapes content generics;
        runs = λ s.
            ap (λ stmts. go stmts (Going s (stood kept false attrs_value None None))) reads.reads
            ∙ reads_parts setting before receiver element decl.shapes content generics kept attrs_value s;
        meant = ap₂ (λ first second. first ++ second) (behind_shape shape body_found (body_meant content reads.body)) (generics_meant generics reads.generics);
        serves = λ e. (
          subst (λ found. Served is_body of_body found) (value_is e) (served is_body by_body of_body body_agree content reads.body (clean_body e)),
          served is_generics by_generics of_generics generics_agree generics reads.generics (nil_right (shape ++ behind) generics_found e),
        );
      }

  found : AreReads receiver left decl members → Found
  found (inl nothing) = found_nothing nothing
  found (inr (content, generics, reads)) = found_parts content generics reads

  -- ---- the run

  module _ (reads : Found) where
    abbrev outer : List Fault
    outer = faults_found (option_map by_attrs attrs_field) ++ reads.faults

    abbrev aside : Aside
    aside = stood kept reads.is_other attrs_value reads.content reads.generics

    attrs_served : outer ≡ [] → Served is_attrs of_attrs attrs_value
    attrs_served e = served is_attrs by_attrs of_attrs attrs_agree attrs_field is.attrs (nil_left (faults_found (option_map by_attrs attrs_field)) reads.faults e)

    others_served : outer ≡ [] → Served is_body of_body reads.content × Served is_generics of_generics reads.generics
    others_served e = reads.serves (nil_right (faults_found (option_map by_attrs attrs_field)) reads.faults e)

    stored : outer ≡ [] → are_stored aside left.parts ≡ true
    stored e = let others = others_served e in all_stored aside left.parts (attrs_served e).0 others.0.0 others.1.0

    abbrev state : List Fault → State
    state faults = state_behind setting (metas before) it.body (items es) faults

    abbrev entry_faults : List Fault
    entry_faults = all_entry_faults setting (metas before) it.body [] es

    -- before what is built
    runs_on : go (outer_stmts left) (with_slots_kept setting before receiver asked no_aside it.body [] [] [])
        ≡ go (closing_with left.parts left.from_ident left.base) (Going (state (entry_faults ++ outer)) aside)
    runs_on =
        let base = left.base in
        let begun = with_slots_kept setting before receiver asked no_aside it.body [] [] [] in
        let slots = declarations (fields_of base) in
        let over : List Text → Forward → List Stmt = λ names which. over_attributes names which base in
        let names = map path_text left.names in
        let which = forward_of left.forward in
        let behind_reads = closing_with left.parts left.from_ident base in
        let behind_done = left.reads ++ behind_reads in
        let behind_attributes = forward_done attrs_field ++ behind_done in
        let behind_forward = over names which ++ behind_attributes in
        let behind_slots = declare_forward attrs_field ++ behind_forward in
        let nothing = state_behind setting (metas before) it.body [] [] in
        let entries = state entry_faults in
        let attrs_found = faults_found (option_map by_attrs attrs_field) in
        ap (go (slots ++ behind_slots)) (statement.declare_errors setting before receiver asked begun)
        ∙ statement.run_append setting before receiver slots behind_slots asked begun
        ∙ ap (go behind_slots) (declared setting before receiver no_aside it base is.base asked es)
        ∙ statement.run_append setting before receiver (declare_forward attrs_field) behind_forward asked (Going nothing no_aside)
        ∙ ap (go behind_forward) (declares_forward setting before receiver element attrs_field nothing)
        ∙ statement.run_append setting before receiver (over names which) behind_attributes asked (Going nothing no_aside)
        ∙ ap₂ (λ names which. go behind_attributes (go (over names which) (Going nothing no_aside))) is.attributes is.keeps
        ∙ ap (go behind_attributes)
        (over_is setting before receiver it base is.base decl.attributes decl.keeps nothing no_aside asked
        ∙ walked setting before receiver (stood kept false None None None) it base is.base asked es)
        ∙ statement.run_append setting before receiver (forward_done attrs_field) behind_done asked (Going entries (stood kept false None None None))
        ∙ ap (go behind_done) (fills_forward setting before receiver element kept attrs_field entries)
        ∙ statement.run_append setting before receiver left.reads behind_reads asked (Going (with_faults attrs_found entries) (stood kept false attrs_value None None))
        ∙ ap (go behind_reads) (reads.runs (with_faults attrs_found entries))
        ∙ ap (λ s. go behind_reads (Going s aside)) (more_faults attrs_found reads.faults entries)

    -- ---- what is built

    abbrev built_value : Datum → List Datum → Datum
    built_value ident values = built_of receiver asked aside left.base.ident.now None left.parts (inits (fields_of left.base)) ident values

    abbrev meant_value : List Datum → Datum
    meant_value values = value.Struct decl.name how (woven (part_value setting before decl element) members values)

    value_is : outer ≡ [] → (ident : Datum) → AllByRecursion (λ part. Some ident ≡ value_of (ident_at setting before decl element part)) (parts_that is_ident parts)
        → (values : List Datum) → AsMany (item_fields members) values → built_value ident values ≡ meant_value values
    value_is e ident by_ident values many =
        let others = others_served e in
        let of : Magic → Datum = taken_value ident aside element in
        let weaving : List Text → List (Text × Datum) = λ names. woven_by_names (λ name. option_map of (part_named left.parts name)) (declared_fields receiver) (labelled names values) in
        let labels = map (λ init. init.member) (inits (fields_of left.base)) in
        ap₂ (λ name style. value.Struct name style (weaving labels)) is.base.name is.style
        ∙ ap (λ names. value.Struct decl.name how (weaving names))
        (members_are setting before receiver asked aside it.body (items es) kept_items (fields_of left.base) it.body.fields zero is.base.fields)
        ∙ ap (value.Struct decl.name how)
        (weave setting before decl element of left.parts (declared_fields receiver) members values is.fields
        (are_values setting before decl element ident aside parts (attrs_served e).1 others.0.1 others.1.1
        (all_that (λ part. is_ident part.what) (λ part. Some ident ≡ value_of (ident_at setting before decl element part)) parts by_ident))
        many)

    abbrev made_by : Datum → Outcome Datum
    made_by = made setting before receiver asked aside it (items es) kept_items left.base is.base left.parts

    made_is : outer ≡ [] → (whole : Datum) → made_by whole ≡ built_members setting before decl element how members es whole
    made_is e whole =
        let values = values_made setting before receiver asked aside it (items es) kept_items whole in
        let next : Datum → Outcome Datum = λ ident. on_value (built_value ident) values in
        let meant = on_value meant_value values in
        ap (λ it. bind it next) (among_is setting before decl element left.parts)
        ∙ ident_bound setting before decl element (rows_that is_ident left.parts) (parts_that is_ident parts) next meant is.ident
        (λ ident by_ident. on_each (AsMany (item_fields members)) (built_value ident) meant_value values
        (as_many (λ field own_items. field_value setting (metas before) it.body whole (items es) field field.shape own_items) it.body.fields (own it.body.fields (items es)))
        (value_is e ident by_ident))
        ∙ ap (λ faults. settle faults meant) (sym (ident_faults setting before decl element parts))

    abbrev defaults_to : Bool → Outcome Datum
    defaults_to from_ident = default_made setting before receiver asked aside it (items es) kept_items (default_of from_ident left.base)

    default_by : (from_ident : Bool) → defaults_to from_ident ≡ cond from_ident (made_from_ident setting receiver.type element) (whole_default setting receiver.type decl.default)
    default_by true = refl
    default_by false = default_is setting before receiver asked aside it (items es) kept_items left.base.default decl.default is.base.default

    default_meant : defaults_to left.from_ident ≡ own_default setting before decl element
    default_meant =
        default_by left.from_ident
        ∙ ap₂ (λ from_ident type. cond from_ident (made_from_ident setting type element) (whole_default setting type decl.default)) is.from_ident is.type

    outer_meant : outer ≡ element_faults setting before decl element parts
    outer_meant =
        ap₂ (λ first second. first ++ second)
        (taken_faults receiver by_attrs of_attrs attrs_agree attrs_field (rows_that is_attrs left.parts) (parts_that is_attrs parts) is.attrs
        ∙ sym (attrs_faults setting before decl element parts))
        reads.meant

    result_meant : outer ≡ []
        → result setting before receiver aside it left.base is.base asked es left.parts left.from_ident
        ≡ transformed setting (metas before) decl.transform decl.type (bind (own_default setting before decl element) (built_members setting before decl element how members es))
    result_meant e =
        ap₂ (λ type it. transformed setting (metas before) decl.transform type it) is.type
        (ap₂ (λ it (next : Datum → Outcome Datum). bind it next) default_meant (fun_ext (made_is e)))

    members_meant : outcome (run setting before receiver (func_stmts left) asked) ≡ Some (members_meaning setting before decl element how members es)
    members_meant =
        let collected : List Fault → List Fault = λ outer. collected_with setting (metas before) it.body outer es in
        let meant_faults = element_faults setting before decl element parts in
        ap (λ stmts. outcome (run setting before receiver stmts asked)) (own_stmts left left.base.body is.own)
        ∙ ap outcome runs_on
        ∙ closed setting before receiver aside it left.base is.base asked es left.parts left.from_ident outer stored
        ∙ ap (λ it. let r : Option (Outcome Datum) = Some it in r)
        (settled (collected outer) (collected meant_faults) (result setting before receiver aside it left.base is.base asked es left.parts left.from_ident)
        (transformed setting (metas before) decl.transform decl.type (bind (own_default setting before decl element) (built_members setting before decl element how members es)))
        (ap collected outer_meant)
        (λ e. result_meant (outer_meant ∙ nil_left meant_faults _ (nil_right entry_faults _ e))))

-- ---- a struct that is read as its one field is

module _ (setting : Setting) (before : Before) (receiver : Receiver) (left : Outer) (decl : OuterDecl) (element : Element) (member : Text) (of : Type') (is : IsAsOne receiver left decl member of) where
  abbrev one_asked : Asked
  one_asked = OnElement element

  abbrev runs_one : List Stmt → Progress → Progress
  runs_one stmts progress = run_from setting before receiver stmts one_asked progress

  -- what the type of the one field reads, as the struct of this name and member
  abbrev alone_of : Text → Text → Type' → Outcome Datum
  alone_of name member of = on_value (alone name member) (read_by_type setting before of element)

  transformed_one : (post : Option PostfixTransform) (built : Outcome Datum)
      → runs_one (transform post) (Built built) ≡ Built (transformed setting (metas before) post receiver.type built)
  transformed_one None built = refl
  transformed_one (Some post) built = statement.transform setting before receiver post one_asked (Built built)

  whole_runs : (style : Style) (field : Field) → IsMember style field member of
      → outcome (run setting before receiver (whole_stmts left.base style field) one_asked) ≡ Some (form_meaning setting before decl element (AsOne member of))
  whole_runs style field same =
      let post = option_copied left.base.post_transform in
      let begun = Going start no_aside in
      ap outcome
      (ap (runs_one (transform post)) (statement.delegate setting before receiver left.base.ident.now (member_name style field) field.ty.now one_asked begun)
      ∙ transformed_one post (alone_of (ident_text left.base.ident.now) (member_name style field) field.ty.now))
      ∙ ap₂ (λ member of. Some (transformed setting (metas before) post receiver.type (alone_of (ident_text left.base.ident.now) member of))) same.0 same.1
      ∙ ap₂ (λ name type. Some (transformed setting (metas before) post type (alone_of name member of))) is.name is.type
      ∙ ap (λ post. Some (transformed setting (metas before) post decl.type (alone_of decl.name member of))) is.transform

  one_meant : (it : «Data» Variant Field) → IsOne left it member of
      → outcome (run setting before receiver (stmts_in left it) one_asked) ≡ Some (form_meaning setting before decl element (AsOne member of))
  one_meant (body.Enum variants) one = absurd one
  one_meant (body.Struct fields) one =
      ap (λ field. outcome (run setting before receiver (stmts_by field fields.style left) one_asked)) one.1
      ∙ whole_runs fields.style one.0 one.2

form_meant : (setting : Setting) (before : Before) (receiver : Receiver) (left : Outer) (decl : OuterDecl) (element : Element) (form : OuterForm) → IsElementForm receiver left decl form
    → outcome (run setting before receiver (func_stmts left) (OnElement element)) ≡ Some (form_meaning setting before decl element form)
form_meant setting before receiver left decl element (ByMembers how members) is =
    members_meant setting before receiver left decl element members how is (found setting before receiver left decl element members how is is.reads)
form_meant setting before receiver left decl element (AsOne member of) is = one_meant setting before receiver left decl element member of is left.base.body is.field

pub element_is_meant : ElementIsMeant
element_is_meant setting before receiver left decl element is = form_meant setting before receiver left decl element decl.form is
