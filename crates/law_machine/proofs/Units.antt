-- The outcome of a unit is what its declaration means.
use Rattle.std.proofs.Common.{◌≡◌, zero, Bool, true, false, List, [], ◌∷◌, ◌++◌, map, fold, Some, None, refl, ap, ap₂, ◌∙◌, sym, append_assoc, append-nil}
use mathlib.Core.Path.{fun_ext}
use Rattle.base_core.specs.declared.text.Text.{Text}
use Rattle.node_make.specs.PathText.{path_text}
use Rattle.node_expr.specs.declared.ty.«Type».{«Type» as Type'}
use Rattle.node_core.specs.declared.derive.DeriveInput.{DeriveInput}
use Rattle.node_core.specs.declared.style.Style.{Style}
use Rattle.node_core.specs.declared.style.Style.TheVariants as style
use Rattle.meta_nested.specs.declared.nested.NestedMeta.{NestedMeta}
use Rattle.error_fault.specs.declared.fault.Fault.{Fault}
use Rattle.error_fault.specs.Outcome.{Outcome, bind, on_value, settle}
use Rattle.machine_value.specs.declared.value.Value.{Value as Datum}
use Rattle.machine_value.specs.declared.value.Value.TheVariants as value
use Rattle.machine_value.specs.Members.{labelled, no_value}
use Rattle.codegen_program.specs.declared.forwarded.Forwarded.{Forwarded}
use Rattle.codegen_program.specs.declared.shape.ShapeSpec.TheVariants as shapes
use Rattle.codegen_program.specs.declared.stmt.Stmt.{Stmt}
use Rattle.codegen_program.specs.declared.stmt.Stmt.TheVariants as stmt
use Rattle.codegen_core.specs.Compiled.{closing, closing_with, default_of, fields_of, for_items, list_stmts, set_default}
use Rattle.codegen_core.specs.Fields.{at_slots, checks, declarations, flatten, flattens}
use Rattle.codegen_core.specs.declared.trait_impl.TraitImpl.{TraitImpl}
use Rattle.codegen_outer.specs.Bare.{bare_stmts, over_read}
use Rattle.codegen_outer.specs.BareLaws.{bare_func}
use Rattle.codegen_outer.specs.declared.from_derive_impl.FromDeriveInputImpl.{FromDeriveInputImpl}
use Rattle.meaning_core.specs.Decl.{Decl, has_flat}
use Rattle.machine_steps.specs.Setting.{Setting}
use Rattle.machine_steps.specs.Convert.{Earlier}
use Rattle.meta_entries.specs.Entries.{items, named_entries}
use Rattle.meta_entries.specs.declared.entry.Entry.{Entry}
use Rattle.meta_entries.specs.declared.entry.Entry.TheVariants as entry
use Rattle.meaning_core.specs.Owners.{each, own}
use Rattle.meaning_core.specs.EntryFaults.{all_entry_faults}
use Rattle.machine_steps.specs.Reading.{transformed}
use Rattle.meaning_core.specs.Meaning.{collected_with, field_values, joined, whole_default}
use Rattle.machine_steps.specs.State.{Slot, State}
use Rattle.meaning_core.specs.EntrySteps.{entry_step}
use Rattle.meaning_core.specs.Walk.{field_slot, kept_by, state_behind}
use Rattle.meaning_core.proofs.Clean.{clean_all, nil_left, nil_right}
use Rattle.meaning_core.proofs.Filters.{walk}
use Rattle.machine_steps.specs.Asked.{Asked, Items, OnElement, items_asked}
use Rattle.machine_steps.specs.Building.{are_stored, built_style}
use Rattle.machine_execute.specs.Elements.{OnInput}
use Rattle.machine_steps.specs.Progress.{Aside, Progress, Going, no_aside, outcome, unless_faults}
use Rattle.machine_steps.specs.Reads.{Before, metas}
use Rattle.machine_steps.specs.Receivers.{Receiver, declared_style}
use Rattle.machine_steps.specs.Statements.{run, run_from}
use Rattle.machine_steps.proofs.Statements as statement
use Rattle.law_machine.specs.Claims.{InputIsMeaning, ListIsMeaning}
use Rattle.law_machine.specs.Compiles.{IsDecl, IsInputDecl}
use Rattle.law_machine.proofs.Arms.{names_are}
use Rattle.law_machine.proofs.Attributes.{for_items_fold, over_read_is}
use Rattle.law_machine.proofs.Building.{IsReady, are_good, behind_default, default_is, default_made, ended_default, full_state, last, made, made_plain, stop_settle}
use Rattle.law_machine.proofs.Passes.{are_kept, at_slots_with, flat_added, flat_slot, full_slot, missing_added, nothing_kept, run_checks, run_declarations, run_flattens, with_slots_kept}

-- what entries mean, at a type and as a struct that is written in some style
abbrev written_meaning : Setting → Earlier → Decl → Type' → Style → List Entry → Outcome Datum
written_meaning setting earlier decl type style es =
    settle (collected_with setting earlier decl.body [] es)
    (transformed setting earlier decl.transform type
    (bind (whole_default setting type decl.body.default)
    (λ whole. on_value (λ vs. value.Struct decl.name style (labelled (map (λ f. f.member) decl.body.fields) vs)) (field_values setting earlier decl.body whole es))))

module _ (setting : Setting) (before : Before) (receiver : Receiver) (aside : Aside) (decl : Decl) where
  abbrev earlier : Earlier
  earlier = metas before

  module _ (left : TraitImpl) (is_decl : IsDecl left decl) where
    -- ---- what follows once the items are read

    module _ (asked : Asked) (es : List Entry) where
      abbrev is : List NestedMeta
      is = items es

      abbrev kept : List NestedMeta
      kept = kept_by setting earlier decl.body (has_flat decl.body.fields) is

      abbrev entry_faults : List Fault
      entry_faults = all_entry_faults setting earlier decl.body [] es

      -- what is built of these parts, by the default that may come from the identifier
      abbrev pub result : List Forwarded → Bool → Outcome Datum
      result parts from_ident =
          transformed setting earlier decl.transform receiver.type
          (bind (default_made setting before receiver asked aside decl is kept (default_of from_ident left)) (made setting before receiver asked aside decl is kept left is_decl parts))

      -- all faults, with those of what stands around the entries, else what is built
      pub closed : (parts : List Forwarded) (from_ident : Bool) (outer : List Fault) → (outer ≡ [] → are_stored aside parts ≡ true)
          → outcome (run_from setting before receiver (closing_with parts from_ident left) asked (Going (state_behind setting earlier decl.body is (entry_faults ++ outer)) aside))
          ≡ Some (settle (collected_with setting earlier decl.body outer es) (result parts from_ident))
      closed parts from_ident outer stored =
          let lefts = fields_of left in
          let mine = own decl.body.fields is in
          let are = are_kept setting before receiver asked aside decl.body is decl.body.fields (has_flat decl.body.fields) refl in
          let f1 = entry_faults in
          let begun = f1 ++ outer in
          let f2 = joined (each (flat_added setting before receiver asked aside decl.body is kept) decl.body.fields mine) in
          let f3 = joined (each (missing_added setting before receiver asked aside decl.body is kept) decl.body.fields mine) in
          let all = f1 ++ (outer ++ (f2 ++ f3)) in
          let source = default_of from_ident left in
          let ending = set_default source ++ last setting before receiver asked aside decl is kept left is_decl parts in
          let behind_checks = stmt.CheckErrors None ∷ ending in
          let behind_flattens = checks lefts ++ behind_checks in
          let slots : List Slot → List Fault → Progress = at_slots_with setting before receiver asked aside decl.body is kept in
          let first : run_from setting before receiver (flattens lefts) asked (slots (each (field_slot setting earlier) decl.body.fields mine) begun) ≡ slots (each (flat_slot setting before receiver asked aside decl.body is kept) decl.body.fields mine) (begun ++ f2) =
          ap (λ ns. run_from setting before receiver (at_slots (flatten ns) zero lefts) asked (slots (each (field_slot setting earlier) decl.body.fields mine) begun)) (names_are decl.body lefts decl.body.fields is_decl.fields)
          ∙ run_flattens setting before receiver asked aside decl.body is kept lefts decl.body.fields mine begun is_decl.fields are in
          let second : run_from setting before receiver (checks lefts) asked (slots (each (flat_slot setting before receiver asked aside decl.body is kept) decl.body.fields mine) (begun ++ f2)) ≡ slots (each (full_slot setting before receiver asked aside decl.body is kept) decl.body.fields mine) ((begun ++ f2) ++ f3) =
          run_checks setting before receiver asked aside decl.body is kept lefts decl.body.fields mine (begun ++ f2) is_decl.fields are in
          let facts : all ≡ [] → IsReady setting before receiver asked aside decl is kept left is_decl parts = λ e.
          let e1 = nil_right f1 (outer ++ (f2 ++ f3)) e in
          let e2 = nil_right outer (f2 ++ f3) e1 in (
            stored (nil_left outer (f2 ++ f3) e1),
            are_good setting before receiver asked aside decl.body is kept decl.body.fields mine (clean_all setting earlier decl.body es (nil_left f1 (outer ++ (f2 ++ f3)) e)) (nil_left f2 f3 e2) (nil_right f2 f3 e2),
          ) in
          let state : List Fault → State = full_state setting before receiver asked aside decl.body is kept no_value in
          ap outcome
          (statement.run_append setting before receiver (flattens lefts) behind_flattens asked (slots (each (field_slot setting earlier) decl.body.fields mine) begun)
          ∙ ap (run_from setting before receiver behind_flattens asked) first
          ∙ statement.run_append setting before receiver (checks lefts) behind_checks asked (slots (each (flat_slot setting before receiver asked aside decl.body is kept) decl.body.fields mine) (begun ++ f2))
          ∙ ap (run_from setting before receiver behind_checks asked) second
          ∙ ap (run_from setting before receiver ending asked) (statement.check_errors setting before receiver None asked (slots (each (full_slot setting before receiver asked aside decl.body is kept) decl.body.fields mine) ((begun ++ f2) ++ f3)))
          ∙ ap (λ fs. run_from setting before receiver ending asked (unless_faults fs (state fs) aside)) (append_assoc begun f2 f3 ∙ append_assoc f1 outer (f2 ++ f3)))
          ∙ stop_settle setting before receiver asked aside decl.body all (state all) ending (result parts from_ident)
          (ended_default setting before receiver asked aside decl is kept left is_decl parts source)
          (λ e. behind_default setting before receiver asked aside decl is kept left is_decl parts source all (facts e))

      -- the same where nothing but entries is read
      pub close : outcome (run_from setting before receiver (closing false left) asked (Going (state_behind setting earlier decl.body is entry_faults) aside)) ≡ Some (written_meaning setting earlier decl receiver.type (built_style receiver asked) es)
      close =
          ap (λ fs. outcome (run_from setting before receiver (closing false left) asked (Going (state_behind setting earlier decl.body is fs) aside))) (sym (append-nil entry_faults))
          ∙ closed [] false [] (λ e. refl)
          ∙ ap₂ (λ o (next : Datum → Outcome Datum). Some (settle (collected_with setting earlier decl.body [] es) (transformed setting earlier decl.transform receiver.type (bind o next))))
          (default_is setting before receiver asked aside decl is kept left.default decl.body.default is_decl.default)
          (fun_ext (made_plain setting before receiver asked aside decl is kept left is_decl))

      -- behind the declarations nothing is read yet
      pub declared : run_from setting before receiver (declarations (fields_of left)) asked (with_slots_kept setting before receiver asked aside decl.body [] [] []) ≡ Going (state_behind setting earlier decl.body [] []) aside
      declared =
          run_declarations setting before receiver asked aside decl.body (fields_of left) decl.body.fields [] is_decl.fields
          ∙ ap (λ xs. with_slots_kept setting before receiver asked aside decl.body xs (each (field_slot setting earlier) decl.body.fields (λ j. [])) []) (nothing_kept setting before receiver asked aside decl.body (has_flat decl.body.fields))

      pub walked : Going (fold (entry_step setting earlier decl.body) (state_behind setting earlier decl.body [] []) es) aside ≡ Going (state_behind setting earlier decl.body is (all_entry_faults setting earlier decl.body [] es)) aside
      walked = ap (λ s. Going s aside) (walk setting earlier decl.body [] [] es)

-- the function that reads a list
pub list_outcome : (setting : Setting) (before : Before) (receiver : Receiver) (left : TraitImpl) (decl : Decl) (asked : Asked) → IsDecl left decl
    → outcome (run setting before receiver (list_stmts left) asked) ≡ Some (written_meaning setting (metas before) decl receiver.type (built_style receiver asked) (map entry.Item (items_asked asked)))
list_outcome setting before receiver left decl asked is =
    let es = map entry.Item (items_asked asked) in
    let go : List Stmt → Progress → Progress = λ ss p. run_from setting before receiver ss asked p in
    let start = with_slots_kept setting before receiver asked no_aside decl.body [] [] [] in
    let behind_items = closing false left in
    let behind_errors = for_items left ∷ behind_items in
    ap outcome
    (statement.run_append setting before receiver (declarations (fields_of left)) (stmt.DeclareErrors ∷ behind_errors) asked start
    ∙ ap (go (stmt.DeclareErrors ∷ behind_errors)) (declared setting before receiver no_aside decl left is asked es)
    ∙ ap (go behind_errors) (statement.declare_errors setting before receiver asked (Going (state_behind setting (metas before) decl.body [] []) no_aside))
    ∙ ap (go behind_items) (for_items_fold setting before receiver decl left is (state_behind setting (metas before) decl.body [] []) no_aside asked ∙ walked setting before receiver no_aside decl left is asked es))
    ∙ close setting before receiver no_aside decl left is asked es

-- the function that reads an item of a text, where it reads attributes alone
pub input_outcome : (setting : Setting) (before : Before) (receiver : Receiver) (left : FromDeriveInputImpl) (decl : Decl) (input : DeriveInput) → IsInputDecl left decl
    → outcome (run setting before receiver (bare_stmts left) (OnElement (OnInput input)))
    ≡ Some (written_meaning setting (metas before) decl receiver.type (declared_style receiver.decl) (named_entries decl.attributes input.attrs))
input_outcome setting before receiver left decl input is =
    let asked = OnElement (OnInput input) in
    let base = left.outer.base in
    let es = named_entries decl.attributes input.attrs in
    let go : List Stmt → Progress → Progress = λ ss p. run_from setting before receiver ss asked p in
    let start = with_slots_kept setting before receiver asked no_aside decl.body [] [] [] in
    let behind_body : Bool → List Stmt = λ b. closing b base in
    let behind_attributes = stmt.CheckShape shapes.Any ∷ (stmt.ReadBody None None ∷ behind_body left.outer.from_ident) in
    let loop : List Text → List Stmt = λ ns. over_read ns base in
    let ns = map path_text left.outer.attr_names.now.0 in
    let behind_slots = loop ns ++ behind_attributes in
    let state = state_behind setting (metas before) decl.body [] [] in
    let state_is = Going (state_behind setting (metas before) decl.body (items es) (all_entry_faults setting (metas before) decl.body [] es)) no_aside in
    ap outcome
    (ap (go (declarations (fields_of base) ++ behind_slots)) (statement.declare_errors setting before receiver asked start)
    ∙ statement.run_append setting before receiver (declarations (fields_of base)) behind_slots asked start
    ∙ ap (go behind_slots) (declared setting before receiver no_aside decl base is.base asked es)
    ∙ statement.run_append setting before receiver (loop ns) behind_attributes asked (Going state no_aside)
    ∙ ap (λ ns. go behind_attributes (go (loop ns) (Going state no_aside))) is.attributes
    ∙ ap (go behind_attributes) (over_read_is setting before receiver decl base is.base decl.attributes state no_aside asked ∙ walked setting before receiver no_aside decl base is.base asked es)
    ∙ ap (go (stmt.ReadBody None None ∷ behind_body left.outer.from_ident)) (statement.check_shape setting before receiver shapes.Any asked state_is)
    ∙ ap (go (behind_body left.outer.from_ident)) (statement.read_body setting before receiver None None asked state_is)
    ∙ ap (λ b. go (behind_body b) state_is) is.no_ident)
    ∙ close setting before receiver no_aside decl base is.base asked es

pub list_is_meaning : ListIsMeaning
list_is_meaning setting before receiver left decl list is type_is =
    list_outcome setting before receiver left decl (Items list) is
    ∙ ap (λ t. Some (written_meaning setting (metas before) decl t style.Struct (map entry.Item list))) type_is

pub input_is_meaning : InputIsMeaning
input_is_meaning setting before receiver left decl input is type_is braced =
    ap (λ stmts. outcome (run setting before receiver stmts (OnElement (OnInput input)))) (bare_func left is.bare)
    ∙ input_outcome setting before receiver left decl input is
    ∙ ap₂ (λ t s. Some (written_meaning setting (metas before) decl t s (named_entries decl.attributes input.attrs))) type_is braced
