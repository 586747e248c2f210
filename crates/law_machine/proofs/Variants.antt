-- A variant that is read field by field gives what its items mean, whichever its first slot is.
use Rattle.std.proofs.Common.{◌≡◌, ℕ, ◌+◌, zero, suc, Bool, true, false, List, [], ◌∷◌, ◌++◌, length, map, fold, Option, Some, None, option_map, refl, ap, ap₂, ◌∙◌, sym, subst, if◌then◌else◌}
use Rattle.std.specs.List.{AllZip}
use Rattle.base_core.specs.declared.text.Text.{Text}
use Rattle.tok_types.specs.Ident.{ident_text}
use Rattle.tok_types.specs.declared.ident.Ident.{Ident}
use Rattle.node_expr.specs.declared.ty.«Type».{«Type» as Type'}
use Rattle.node_core.specs.declared.style.Style.TheVariants as style
use Rattle.meta_entries.specs.declared.entry.Entry.{Entry}
use Rattle.meta_entries.specs.declared.entry.Entry.TheVariants as entry
use Rattle.meta_entries.proofs.ItemLemmas.{items-of_items}
use Rattle.meta_nested.specs.declared.nested.NestedMeta.{NestedMeta}
use Rattle.error_fault.specs.Faults.{at}
use Rattle.error_fault.specs.Outcome.{Outcome, Value, Faults, on_value, settle}
use Rattle.error_fault.specs.declared.fault.Fault.{Fault}
use Rattle.machine_value.specs.Members.{labelled, no_value}
use Rattle.machine_value.specs.declared.value.Value.{Value as Datum}
use Rattle.machine_value.specs.declared.value.Value.TheVariants as value
use Rattle.codegen_program.specs.declared.init.Init.{Init}
use Rattle.codegen_program.specs.declared.stmt.Stmt.{Stmt}
use Rattle.codegen_program.specs.declared.stmt.Stmt.TheVariants as stmt
use Rattle.codegen_core.specs.Fields.{check, checks_from, core_loop_from, declarations_from, inits_from}
use Rattle.codegen_core.specs.Variants.{variant_stmts}
use Rattle.codegen_core.specs.declared.field.Field.{Field}
use Rattle.codegen_core.specs.declared.variant.Variant.{Variant}
use Rattle.machine_steps.specs.Asked.{Asked, Items}
use Rattle.machine_steps.specs.Building.{built}
use Rattle.machine_steps.specs.Convert.{Earlier}
use Rattle.machine_steps.specs.Progress.{Aside, Progress, Going, Built, Ended, built_or_stuck, no_aside, outcome}
use Rattle.machine_steps.specs.Reads.{Before, metas}
use Rattle.machine_steps.specs.Receivers.{Receiver, declared_fields}
use Rattle.machine_steps.specs.Setting.{Setting}
use Rattle.machine_steps.specs.State.{Slot, One, Several, State, step}
use Rattle.machine_steps.specs.Statements.{run}
use Rattle.machine_steps.proofs.Building.{woven_none}
use Rattle.machine_steps.proofs.Statements as statement
use Rattle.meaning_core.specs.Decl.{BodyDecl, FieldDecl, Shape, Single, Many, Flat, fallback, has_flat, is_many}
use Rattle.meaning_core.specs.EntryFaults.{all_entry_faults}
use Rattle.meaning_core.specs.EntrySteps.{arms_from, rest}
use Rattle.meaning_core.specs.FieldValue.{field_value, missing}
use Rattle.meaning_core.specs.Meaning.{in_order, joined}
use Rattle.meaning_core.specs.Owners.{each, field_at, own}
use Rattle.meaning_core.specs.Receivers.{VariantDecl}
use Rattle.meaning_core.specs.Variants.{as_single, fields_meaning}
use Rattle.meaning_core.specs.Walk.{field_slot, kept_by, slot_by, state_behind}
use Rattle.meaning_core.proofs.Clean.{Clean, clean_all, nil_left, nil_right, not_nil}
use Rattle.meaning_core.proofs.Filters.{walk}
use Rattle.meaning_core.proofs.Owned.{each_same, items_in, own_items_in}
use Rattle.law_machine.specs.Compiles.{IsField, IsVariantBody}
use Rattle.law_machine.proofs.Arms.{core_loop_is, items_fold}
use Rattle.law_machine.proofs.Building.{AreInits, init_is, init_meant, members_are, stop_settle, values_of}
use Rattle.law_machine.proofs.Passes.{Passes, are_kept, check_meant, check_of, check_step, full_by, go, missing_full, missing_is, nothing_kept, run_declarations, run_pass, with_slots_kept}
use Rattle.law_machine.proofs.Slots.{behind, declared_padded, items_behind, pads, pads_length}

at_nil : (faults : List Fault) (name : Text) → at faults name ≡ [] → faults ≡ []
at_nil [] name e = refl
at_nil (f ∷ fs) name e = absurd (not_nil _ _ e)

-- the variant of the values under the names of its members
variant_built : (setting : Setting) (receiver : Receiver) (asked : Asked) (aside : Aside) (name variant : Ident) (inits : List Init) (values : Outcome (List Datum))
    → built receiver asked aside name (Some variant) [] inits setting values
    ≡ on_value (λ values. value.Variant (ident_text name) (ident_text variant) style.Struct (labelled (map (λ init. init.member) inits) values)) values
variant_built setting receiver asked aside name variant inits (Value values) =
    ap (λ members. Value (value.Variant (ident_text name) (ident_text variant) style.Struct members))
    (woven_none (declared_fields receiver) (labelled (map (λ init. init.member) inits) values))
variant_built setting receiver asked aside name variant inits (Faults fault more) = refl

module _ (setting : Setting) (before : Before) (receiver : Receiver) (list : List NestedMeta) (body : BodyDecl) where
  abbrev earlier : Earlier
  earlier = metas before

  abbrev asked : Asked
  asked = Items list

  abbrev goes : List Stmt → Progress → Progress
  goes stmts progress = go setting before receiver asked no_aside body stmts progress

  abbrev slots_of : List NestedMeta → List Slot → List Fault → Progress
  slots_of kept slots faults = with_slots_kept setting before receiver asked no_aside body kept slots faults

  -- ---- the declarations

  first_slot : (b : Bool) (k : ℕ) (ident : Ident) (type : Type')
      → goes ((if b then stmt.DeclareMany k ident type else stmt.DeclareOne k ident type) ∷ []) (slots_of [] [] [])
      ≡ goes ((if b then stmt.DeclareMany k ident type else stmt.DeclareOne k ident type) ∷ []) (slots_of [] (pads k) [])
  first_slot true k ident type =
      statement.declare_many setting before receiver k ident type asked (slots_of [] [] [])
      ∙ ap (λ xs. slots_of [] xs []) (declared_padded k (Several type []))
      ∙ sym (statement.declare_many setting before receiver k ident type asked (slots_of [] (pads k) []))
  first_slot false k ident type =
      statement.declare_one setting before receiver k ident type asked (slots_of [] [] [])
      ∙ ap (λ xs. slots_of [] xs []) (declared_padded k (One type false None))
      ∙ sym (statement.declare_one setting before receiver k ident type asked (slots_of [] (pads k) []))

  first_slots : (k : ℕ) (left : Field) (lefts : List Field) → goes (declarations_from k (left ∷ lefts)) (slots_of [] [] []) ≡ goes (declarations_from k (left ∷ lefts)) (slots_of [] (pads k) [])
  first_slots k left lefts =
      ap (goes ((if left.flatten then stmt.DeclareBuffer ∷ [] else []) ++ declarations_from (k + 1) lefts)) (first_slot left.multiple k left.ident.now left.ty.now)

  -- ---- the missing fields

  abbrev kept : List NestedMeta
  kept = kept_by setting earlier body (has_flat body.fields) list

  abbrev missing_in : FieldDecl → List NestedMeta → List Fault
  missing_in f own_items = missing setting earlier body f (as_single f.shape) (items_in f.shape own_items)

  abbrev full_in : FieldDecl → List NestedMeta → Slot
  full_in f own_items = full_by setting before receiver asked no_aside body list kept f (as_single f.shape) (fallback body f) (items_in f.shape own_items)

  check_in_step : (s : Shape) (f : FieldDecl) (own_items : List NestedMeta) (done todo : List Slot) (faults : List Fault)
      → goes (check_meant setting before receiver asked no_aside body list kept (is_many s) (fallback body f) (length done) f.type f.name) (slots_of kept (done ++ slot_by setting earlier f s own_items ∷ todo) faults)
      ≡ slots_of kept (done ++ full_by setting before receiver asked no_aside body list kept f (as_single s) (fallback body f) (items_in s own_items) ∷ todo)
      (faults ++ missing_full setting before receiver asked no_aside body list kept f (as_single s) (fallback body f) (items_in s own_items))
  check_in_step Single f own_items done todo faults = check_step setting before receiver asked no_aside body list kept Single (fallback body f) f own_items done todo faults
  check_in_step Many f own_items done todo faults = check_step setting before receiver asked no_aside body list kept Many (fallback body f) f own_items done todo faults
  check_in_step Flat f own_items done todo faults = check_step setting before receiver asked no_aside body list kept Single (fallback body f) f [] done todo faults

  check_in : Passes setting before receiver asked no_aside body list kept check (field_slot setting earlier) full_in missing_in
  check_in left f own_items done todo faults isf is_kept =
      ap (λ ss. goes ss (slots_of kept (done ++ field_slot setting earlier f own_items ∷ todo) faults)) (check_of setting before receiver asked no_aside body list kept left f (length done) isf)
      ∙ check_in_step f.shape f own_items done todo faults
      ∙ ap (λ x. slots_of kept (done ++ full_in f own_items ∷ todo) (faults ++ x))
      (missing_is setting before receiver asked no_aside body list kept f (as_single f.shape) (items_in f.shape own_items))

  -- ---- the values

  abbrev value_in : FieldDecl → List NestedMeta → Outcome Datum
  value_in f own_items = field_value setting earlier body no_value list f (as_single f.shape) (items_in f.shape own_items)

  abbrev meant_in : FieldDecl → Shape → List NestedMeta → Type 0
  meant_in f s own_items =
      init_meant setting before receiver asked no_aside body list kept no_value (fallback body f)
      (full_by setting before receiver asked no_aside body list kept f (as_single s) (fallback body f) (items_in s own_items))
      ≡ Some (field_value setting earlier body no_value list f (as_single s) (items_in s own_items))

  init_in : (f : FieldDecl) (s : Shape) (own_items : List NestedMeta) → Clean setting earlier f own_items → missing setting earlier body f (as_single s) (items_in s own_items) ≡ [] → meant_in f s own_items
  init_in f Single own_items c m =
      init_is setting before receiver asked no_aside body list kept f Single (fallback body f) no_value own_items refl c refl
      (missing_is setting before receiver asked no_aside body list kept f Single own_items ∙ m)
  init_in f Many own_items c m =
      init_is setting before receiver asked no_aside body list kept f Many (fallback body f) no_value own_items refl c refl
      (missing_is setting before receiver asked no_aside body list kept f Many own_items ∙ m)
  init_in f Flat own_items c m =
      init_is setting before receiver asked no_aside body list kept f Single (fallback body f) no_value [] refl tt refl
      (missing_is setting before receiver asked no_aside body list kept f Single [] ∙ m)

  inits_in : (fs : List FieldDecl) (own_items : ℕ → List NestedMeta) → ((k : ℕ) → Clean setting earlier (field_at fs k) (own_items k)) → joined (each missing_in fs own_items) ≡ []
      → AreInits setting before receiver asked no_aside body list kept full_in value_in no_value fs own_items
  inits_in [] own_items c m = tt
  inits_in (f ∷ fs) own_items c m =
      let more = joined (each missing_in fs (λ k. own_items (suc k))) in (
        init_in f f.shape (own_items zero) (c zero) (nil_left (missing_in f (own_items zero)) more m),
        inits_in fs (λ k. own_items (suc k)) (λ k. c (suc k)) (nil_right (missing_in f (own_items zero)) more m),
      )

  -- ---- the statements of a variant

  abbrev mine : ℕ → List NestedMeta
  mine = own body.fields list

  abbrev entries : List Entry
  entries = map entry.Item list

  abbrev read_faults : List Fault
  read_faults = all_entry_faults setting earlier body [] entries

  abbrev missed : List Fault
  missed = joined (each missing_in body.fields mine)

  clean : read_faults ≡ [] → (k : ℕ) → Clean setting earlier (field_at body.fields k) (mine k)
  clean none k =
      let P : List NestedMeta → Type 0 = λ is. Clean setting earlier (field_at body.fields k) (own body.fields is k) in
      subst P (items-of_items list) (clean_all setting earlier body entries none k)

  missed_is : missed ≡ joined (each (λ f own_items. missing setting earlier body f (as_single f.shape) own_items) body.fields mine)
  missed_is =
      ap joined (each_same missing_in (λ f own_items. missing setting earlier body f (as_single f.shape) own_items) body.fields mine
      (λ k. let f = field_at body.fields k in ap (missing setting earlier body f (as_single f.shape)) (own_items_in body.fields list k)))

  values_is : each value_in body.fields mine ≡ each (λ f own_items. field_value setting earlier body no_value list f (as_single f.shape) own_items) body.fields mine
  values_is =
      each_same value_in (λ f own_items. field_value setting earlier body no_value list f (as_single f.shape) own_items) body.fields mine
      (λ k. let f = field_at body.fields k in ap (field_value setting earlier body no_value list f (as_single f.shape)) (own_items_in body.fields list k))

  -- behind the items
  loop_is : (done : List Slot) (lefts : List Field) (allows : Bool) → AllZip (IsField body) lefts body.fields → allows ≡ body.allows_unknown
      → goes (core_loop_from (length done) allows lefts ∷ []) (slots_of [] (done ++ each (field_slot setting earlier) body.fields (λ j. [])) [])
      ≡ slots_of kept (done ++ each (field_slot setting earlier) body.fields mine) read_faults
  loop_is done lefts allows are same =
      let slots = each (field_slot setting earlier) body.fields (λ j. []) in
      let at_start : Progress = slots_of [] (done ++ slots) [] in
      let state : State = state_behind setting earlier body [] [] in
      ap (λ it. goes (it ∷ []) at_start) (core_loop_is body (length done) allows lefts are same)
      ∙ statement.for_items setting before receiver (arms_from (length done) body.fields) (rest body) asked at_start
      ∙ ap (λ ks. let s : State = record { slots = done ++ slots; faults = []; kept = ks; whole = no_value } in
      Going (fold (step setting earlier (arms_from (length done) body.fields) (rest body)) s list) no_aside)
      (nothing_kept setting before receiver asked no_aside body (has_flat body.fields))
      ∙ ap (λ s. Going s no_aside)
      (items_behind setting earlier body done list state
      ∙ ap (behind done) (items_fold setting earlier body state list ∙ walk setting earlier body [] [] entries ∙ ap (λ is. state_behind setting earlier body is read_faults) (items-of_items list)))

  module _ (left : Variant) where
    abbrev built_by : ℕ → List Field → List Stmt
    built_by k lefts = stmt.Build left.ty_ident.now (Some left.variant_ident.now) [] (inits_from k lefts) ∷ []

    abbrev rest_stmts : ℕ → List Field → List Stmt
    rest_stmts k lefts =
        core_loop_from k left.allow_unknown_fields lefts ∷ (checks_from k lefts ++ (stmt.CheckErrors (Some left.name_in_attr.now) ∷ built_by k lefts))

    abbrev values_made : Outcome (List Datum)
    values_made = in_order (each value_in body.fields mine)

    abbrev made : List Text → Outcome Datum
    made members = on_value (λ vs. value.Variant (ident_text left.ty_ident.now) (ident_text left.variant_ident.now) style.Struct (labelled members vs)) values_made

    abbrev members : List Text
    members = map (λ f. f.member) body.fields

    abbrev full_state : List Slot → List Fault → State
    full_state done faults = record { slots = done ++ each full_in body.fields mine; faults = faults; kept = kept; whole = no_value }

    build_is : (done : List Slot) (lefts : List Field) (faults : List Fault) → AllZip (IsField body) lefts body.fields → read_faults ++ missed ≡ []
        → goes (built_by (length done) lefts) (Going (full_state done faults) no_aside) ≡ Built (made members)
    build_is done lefts faults are none =
        let k = length done in
        let good = inits_in body.fields mine (clean (nil_left read_faults missed none)) (nil_right read_faults missed none) in
        statement.build setting before receiver left.ty_ident.now (Some left.variant_ident.now) [] (inits_from k lefts) asked (Going (full_state done faults) no_aside)
        ∙ ap (λ b. built_or_stuck (option_map (built receiver asked no_aside left.ty_ident.now (Some left.variant_ident.now) [] (inits_from k lefts) setting) b))
        (values_of setting before receiver asked no_aside body list kept full_in value_in no_value lefts body.fields mine done are good)
        ∙ ap Built (variant_built setting receiver asked no_aside left.ty_ident.now left.variant_ident.now (inits_from k lefts) values_made)
        ∙ ap (λ ms. Built (made ms)) (members_are setting before receiver asked no_aside body list kept lefts body.fields k are)

    rest_is : (done : List Slot) (lefts : List Field) → AllZip (IsField body) lefts body.fields → left.allow_unknown_fields ≡ body.allows_unknown
        → outcome (goes (rest_stmts (length done) lefts) (slots_of [] (done ++ each (field_slot setting earlier) body.fields (λ j. [])) []))
        ≡ Some (settle (at (read_faults ++ missed) left.name_in_attr.now) (made members))
    rest_is done lefts are same =
        let k = length done in
        let name = left.name_in_attr.now in
        let faults = read_faults ++ missed in
        let ending = built_by k lefts in
        let behind_items = checks_from k lefts ++ (stmt.CheckErrors (Some name) ∷ ending) in
        let read : List Slot = done ++ each (field_slot setting earlier) body.fields mine in
        let state = full_state done faults in
        ap outcome
        (ap (goes behind_items) (loop_is done lefts left.allow_unknown_fields are same)
        ∙ statement.run_append setting before receiver (checks_from k lefts) (stmt.CheckErrors (Some name) ∷ ending) asked (slots_of kept read read_faults)
        ∙ ap (goes (stmt.CheckErrors (Some name) ∷ ending))
        (run_pass setting before receiver asked no_aside body list kept check (field_slot setting earlier) full_in missing_in check_in lefts body.fields mine done read_faults are
        (are_kept setting before receiver asked no_aside body list body.fields (has_flat body.fields) refl))
        ∙ ap (goes ending) (statement.check_errors setting before receiver (Some name) asked (Going state no_aside)))
        ∙ stop_settle setting before receiver asked no_aside body (at faults name) state ending (made members)
        (λ f fs. statement.build setting before receiver left.ty_ident.now (Some left.variant_ident.now) [] (inits_from k lefts) asked (Ended f fs))
        (λ e. ap outcome (build_is done lefts faults are (at_nil faults name e)))

    abbrev from_start : List Stmt → Option (Outcome Datum)
    from_start stmts = outcome (goes stmts (slots_of [] [] []))

    pub all_is : (k : ℕ) (lefts : List Field) (fs : List FieldDecl) → fs ≡ body.fields → AllZip (IsField body) lefts fs → left.allow_unknown_fields ≡ body.allows_unknown
        → from_start (stmt.DeclareErrors ∷ (declarations_from k lefts ++ rest_stmts k lefts)) ≡ Some (settle (at (read_faults ++ missed) left.name_in_attr.now) (made members))
    all_is k [] [] e are same =
        ap (λ p. outcome (goes (rest_stmts k []) p)) (statement.declare_errors setting before receiver asked (slots_of [] [] [])
        ∙ ap (λ them. slots_of [] (each (field_slot setting earlier) them (λ j. [])) []) e)
        ∙ rest_is [] [] (let P : List FieldDecl → Type 0 = λ fs. AllZip (IsField body) [] fs in subst P e tt) same
    all_is k [] (f ∷ fs) e are same = absurd are
    all_is k (left_field ∷ lefts) [] e are same = absurd are
    all_is k (left_field ∷ lefts) (f ∷ fs) e are same =
        let all = left_field ∷ lefts in
        let P : List FieldDecl → Type 0 = λ them. AllZip (IsField body) all them in
        let zip : AllZip (IsField body) all body.fields = subst P e are in
        let behind_slots = rest_stmts k all in
        let slots : List Slot = each (field_slot setting earlier) body.fields (λ j. []) in
        ap outcome
        (ap (goes (declarations_from k all ++ behind_slots)) (statement.declare_errors setting before receiver asked (slots_of [] [] []))
        ∙ statement.run_append setting before receiver (declarations_from k all) behind_slots asked (slots_of [] [] [])
        ∙ ap (goes behind_slots) (first_slots k left_field lefts)
        ∙ ap (λ n. goes behind_slots (goes (declarations_from n all) (slots_of [] (pads k) []))) (sym (pads_length k))
        ∙ ap (goes behind_slots) (run_declarations setting before receiver asked no_aside body all body.fields (pads k) zip)
        ∙ ap (λ n. goes (rest_stmts n all) (slots_of [] (pads k ++ slots) [])) (sym (pads_length k)))
        ∙ rest_is (pads k) all zip same

    pub variant_is : (enum : Text) (k : ℕ) (it : VariantDecl) → IsVariantBody left body → ident_text left.ty_ident.now ≡ enum → ident_text left.variant_ident.now ≡ it.ident → left.name_in_attr.now ≡ it.name
        → outcome (run setting before receiver (variant_stmts k left) asked) ≡ Some (fields_meaning setting earlier enum it body list)
    variant_is enum k it is enum_is ident_is name_is =
        all_is k left.body.fields body.fields refl is.fields is.allows_unknown
        ∙ ap₂ (λ them vs. Some (settle (at (read_faults ++ them) left.name_in_attr.now) (on_value (λ vs. value.Variant (ident_text left.ty_ident.now) (ident_text left.variant_ident.now) style.Struct (labelled members vs)) (in_order vs)))) missed_is values_is
        ∙ ap (λ n. Some (settle (at (read_faults ++ joined (each (λ f own_items. missing setting earlier body f (as_single f.shape) own_items) body.fields mine)) n)
        (on_value (λ vs. value.Variant (ident_text left.ty_ident.now) (ident_text left.variant_ident.now) style.Struct (labelled members vs))
        (in_order (each (λ f own_items. field_value setting earlier body no_value list f (as_single f.shape) own_items) body.fields mine))))) name_is
        ∙ ap₂ (λ e i. Some (settle (at (read_faults ++ joined (each (λ f own_items. missing setting earlier body f (as_single f.shape) own_items) body.fields mine)) it.name)
        (on_value (λ vs. value.Variant e i style.Struct (labelled members vs))
        (in_order (each (λ f own_items. field_value setting earlier body no_value list f (as_single f.shape) own_items) body.fields mine))))) enum_is ident_is
