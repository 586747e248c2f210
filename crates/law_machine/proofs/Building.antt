-- What is built from the slots, where no fault was collected.
use Rattle.std.proofs.Common.{◌≡◌, ℕ, ◌+◌, zero, suc, true, cond, List, [], ◌∷◌, ◌++◌, length, map, Option, Some, None, option_map, refl, ap, ap₂, ◌∙◌, sym, append_assoc}
use Rattle.std.specs.List.{AllZip}
use Rattle.std.specs.Option.{option_copied}
use Rattle.std.specs.Prelude.{option_and_then}
use Rattle.node_expr.specs.declared.ty.«Type».{«Type» as Type'}
use Rattle.meta_nested.specs.declared.nested.NestedMeta.{NestedMeta}
use Rattle.error_fault.specs.declared.fault.Fault.{Fault}
use Rattle.error_fault.specs.Outcome.{Outcome, Value, Faults, bind, on_value, settle, value_of}
use Rattle.machine_value.specs.declared.value.Value.{Value as Datum}
use Rattle.machine_value.specs.declared.value.Value.TheVariants as value
use Rattle.machine_value.specs.Members.{no_value, labelled}
use Rattle.codegen_program.specs.declared.arm.PostfixTransform.{PostfixTransform}
use Rattle.codegen_program.specs.declared.forwarded.Forwarded.{Forwarded}
use Rattle.codegen_program.specs.declared.init.DefaultSource.{DefaultSource}
use Rattle.codegen_program.specs.declared.init.Fallback.{Fallback as Falls}
use Rattle.codegen_program.specs.declared.init.Fallback.TheVariants as fallbacks
use Rattle.codegen_program.specs.declared.init.Init.{Init}
use Rattle.codegen_program.specs.declared.stmt.Stmt.{Stmt}
use Rattle.codegen_core.specs.Compiled.{build_with, fields_of, set_default, transform}
use Rattle.codegen_core.specs.Defaults.{source}
use Rattle.codegen_core.specs.Fields.{at_slots, fallback_of, init, inits}
use Rattle.codegen_core.specs.declared.default_expression.DefaultExpression.{DefaultExpression}
use Rattle.codegen_core.specs.declared.default_expression.DefaultExpression.TheVariants as defaults
use Rattle.codegen_core.specs.declared.field.Field.{Field}
use Rattle.codegen_core.specs.declared.trait_impl.TraitImpl.{TraitImpl}
use Rattle.meaning_core.specs.Decl.{BodyDecl, Decl, FieldDecl, Shape, Single, Many, Flat, Fallback, Default, fallback}
use Rattle.machine_steps.specs.Setting.{Setting}
use Rattle.machine_steps.specs.Convert.{Earlier, none}
use Rattle.meaning_core.specs.Owners.{each, field_at, own}
use Rattle.meaning_core.specs.EntryFaults.{read, value_list, values}
use Rattle.machine_steps.specs.Reading.{transformed}
use Rattle.meaning_core.specs.FieldValue.{absent_value, empty_value, fallback_outcome, field_value, flat_faults, flat_outcome, missing_by, value_of_none}
use Rattle.meaning_core.specs.Meaning.{in_order, joined, whole_default}
use Rattle.machine_steps.specs.State.{Slot, One, Several, State, slot_at}
use Rattle.meaning_core.proofs.Clean.{Clean, IsValue, nil_left, nil_right, not_nil, value_if_none}
use Rattle.machine_steps.specs.Asked.{Asked}
use Rattle.machine_steps.specs.Building.{are_stored, built, built_style}
use Rattle.machine_steps.specs.Reads.{Before, metas}
use Rattle.machine_steps.specs.Receivers.{Receiver}
use Rattle.machine_steps.specs.Progress.{Aside, Progress, Going, Built, Ended, Stuck, built_or_stuck, on_outcome, outcome, unless_faults}
use Rattle.machine_steps.specs.Statements.{source_value}
use Rattle.machine_steps.specs.Slots.{absent, fallback_value, in_front, init_value, init_values}
use Rattle.machine_steps.proofs.Building.{plain_built}
use Rattle.machine_steps.proofs.Statements as statement
use Rattle.law_machine.specs.Compiles.{IsField, IsDecl, meant_default, meant_fallback}
use Rattle.law_machine.proofs.Passes.{at_here, flat_added, full_by, full_slot, go, missing_added, missing_full, missing_is, one_more}

module _ (setting : Setting) (before : Before) (receiver : Receiver) (asked : Asked) (aside : Aside) (body : BodyDecl) (all kept : List NestedMeta) where
  abbrev earlier : Earlier
  earlier = metas before

  -- ---- the value of one member

  abbrev empty_meant : Type' → Datum → Option Fallback → Outcome Datum
  empty_meant t whole None = Value (value.List [])
  empty_meant t whole (Some x) = fallback_outcome setting t whole x

  abbrev pub init_meant : Datum → Option Fallback → Slot → Option (Outcome Datum)
  init_meant whole x (One t seen (Some v)) = Some (Value v)
  init_meant whole x (One t seen None) = option_map (fallback_outcome setting t whole) x
  init_meant whole x (Several t []) = Some (empty_meant t whole x)
  init_meant whole x (Several t (v ∷ vs)) = Some (Value (value.List (v ∷ vs)))

  falls_is : (t : Type') (whole : Datum) (x : Falls) → fallback_value setting t whole x ≡ fallback_outcome setting t whole (meant_fallback x)
  falls_is t whole (fallbacks.Inherit ident) = refl
  falls_is t whole (fallbacks.Explicit callable) = refl
  falls_is t whole fallbacks.Trait = refl

  meant_is : (whole : Datum) (x : Option Falls) (slot : Slot) → init_value setting whole x slot ≡ init_meant whole (option_map meant_fallback x) slot
  meant_is whole x (One t seen (Some v)) = refl
  meant_is whole None (One t seen None) = refl
  meant_is whole (Some x) (One t seen None) = ap (λ o. let r : Option (Outcome Datum) = Some o in r) (falls_is t whole x)
  meant_is whole None (Several t []) = refl
  meant_is whole (Some x) (Several t []) = ap (λ o. let r : Option (Outcome Datum) = Some o in r) (falls_is t whole x)
  meant_is whole x (Several t (v ∷ vs)) = refl

  value_by_read : (whole : Datum) (x : Option Fallback) (t : Type') (o : Outcome Datum) → IsValue o → init_meant whole x (One t true (value_of o)) ≡ Some o
  value_by_read whole x t (Value v) c = refl
  value_by_read whole x t (Faults f fs) c = absurd c

  values_by_read : (whole : Datum) (x : Option Fallback) (t : Type') (o : Outcome Datum) (vs : List Datum) → IsValue o
      → init_meant whole x (Several t (value_list setting earlier o ++ vs)) ≡ Some (Value (value.List (value_list setting earlier o ++ vs)))
  values_by_read whole x t (Value v) vs c = refl
  values_by_read whole x t (Faults f fs) vs c = absurd c

  empty_is : (f : FieldDecl) (whole : Datum) (x : Option Fallback) → empty_meant f.type whole x ≡ empty_value setting earlier body f whole x
  empty_is f whole None = refl
  empty_is f whole (Some x) = refl

  none_is : (f : FieldDecl) (whole : Datum) (v : Option Datum) → missing_by setting earlier body f None v ≡ []
      → init_meant whole None (absent f.type f.name v).0 ≡ Some (value_of_none setting earlier body f v)
  none_is f whole (Some v) e = refl
  none_is f whole None e = absurd (not_nil _ [] e)

  pub init_is : (f : FieldDecl) (s : Shape) (x : Option Fallback) (whole : Datum) (own_items : List NestedMeta) → fallback body f ≡ x → Clean setting earlier f own_items
      → flat_faults setting earlier body f s all ≡ [] → missing_full setting before receiver asked aside body all kept f s x own_items ≡ []
      → init_meant whole x (full_by setting before receiver asked aside body all kept f s x own_items) ≡ Some (field_value setting earlier body whole all f s own_items)
  init_is f Flat x whole own_items e c a m = value_by_read whole x f.type (flat_outcome setting earlier body f all) (value_if_none (flat_outcome setting earlier body f all) a)
  init_is f Many x whole [] e c a m = ap (λ o. let r : Option (Outcome Datum) = Some o in r) (empty_is f whole x ∙ ap (empty_value setting earlier body f whole) (sym e))
  init_is f Many x whole (i ∷ more) e c a m = values_by_read whole x f.type (read setting earlier f i) (values setting earlier f more) c
  init_is f Single None whole [] e c a m = none_is f whole (none setting earlier f.type) m ∙ ap (λ y. let r : Option (Outcome Datum) = Some (absent_value setting earlier body f whole y) in r) (sym e)
  init_is f Single (Some x) whole [] e c a m = ap (λ y. let r : Option (Outcome Datum) = Some (absent_value setting earlier body f whole y) in r) (sym e)
  init_is f Single None whole (i ∷ more) e c a m = value_by_read whole None f.type (read setting earlier f i) c
  init_is f Single (Some x) whole (i ∷ more) e c a m = value_by_read whole (Some x) f.type (read setting earlier f i) c

  -- ---- all members

  abbrev full : FieldDecl → List NestedMeta → Slot
  full f own_items = full_slot setting before receiver asked aside body all kept f own_items

  abbrev added_flat : FieldDecl → List NestedMeta → List Fault
  added_flat f own_items = flat_added setting before receiver asked aside body all kept f own_items

  abbrev added_missing : FieldDecl → List NestedMeta → List Fault
  added_missing f own_items = missing_added setting before receiver asked aside body all kept f own_items

  -- no fault of the field was collected
  abbrev IsGood : FieldDecl → List NestedMeta → Type 0
  IsGood f own_items = Clean setting earlier f own_items × (added_flat f own_items ≡ []) × (added_missing f own_items ≡ [])

  abbrev pub AreGood : List FieldDecl → (ℕ → List NestedMeta) → Type 0
  AreGood [] own_items = Unit {0}
  AreGood (f ∷ fs) own_items = IsGood f (own_items zero) × AreGood fs (λ k. own_items (suc k))

  pub are_good : (fs : List FieldDecl) (own_items : ℕ → List NestedMeta) → ((k : ℕ) → Clean setting earlier (field_at fs k) (own_items k))
      → joined (each added_flat fs own_items) ≡ [] → joined (each added_missing fs own_items) ≡ [] → AreGood fs own_items
  are_good [] own_items c a m = tt
  are_good (f ∷ fs) own_items c a m =
      let later : ℕ → List NestedMeta = λ k. own_items (suc k) in (
        (c zero, nil_left (added_flat f (own_items zero)) (joined (each added_flat fs later)) a, nil_left (added_missing f (own_items zero)) (joined (each added_missing fs later)) m),
        are_good fs later (λ k. c (suc k)) (nil_right (added_flat f (own_items zero)) (joined (each added_flat fs later)) a) (nil_right (added_missing f (own_items zero)) (joined (each added_missing fs later)) m),
      )

  abbrev value_here : Datum → FieldDecl → List NestedMeta → Outcome Datum
  value_here whole f own_items = field_value setting earlier body whole all f f.shape own_items

  abbrev pub one_init : ℕ → Field → List Init
  one_init slot left = init slot left ∷ []

  in_front_is : (o : Outcome Datum) (others : Outcome (List Datum)) → in_front setting (Some o) (Some others) ≡ Some (bind o (λ v. on_value (λ vs. v ∷ vs) others))
  in_front_is (Value v) others = refl
  in_front_is (Faults f fs) others = refl

  -- the slot of each field has this value
  abbrev pub AreInits : (FieldDecl → List NestedMeta → Slot) → (FieldDecl → List NestedMeta → Outcome Datum) → Datum → List FieldDecl → (ℕ → List NestedMeta) → Type 0
  AreInits slot value whole [] own_items = Unit {0}
  AreInits slot value whole (f ∷ fs) own_items =
      (init_meant whole (fallback body f) (slot f (own_items zero)) ≡ Some (value f (own_items zero))) × AreInits slot value whole fs (λ k. own_items (suc k))

  pub values_of : (slot : FieldDecl → List NestedMeta → Slot) (value : FieldDecl → List NestedMeta → Outcome Datum) (whole : Datum) (lefts : List Field) (fs : List FieldDecl) (own_items : ℕ → List NestedMeta) (done : List Slot)
      → AllZip (IsField body) lefts fs → AreInits slot value whole fs own_items
      → init_values setting whole (done ++ each slot fs own_items) (at_slots one_init (length done) lefts) ≡ Some (in_order (each value fs own_items))
  values_of slot value whole [] [] own_items done zip good = refl
  values_of slot value whole [] (f ∷ fs) own_items done zip good = absurd zip
  values_of slot value whole (left ∷ lefts) [] own_items done zip good = absurd zip
  values_of slot value whole (left ∷ lefts) (f ∷ fs) own_items done zip good =
      let later : ℕ → List NestedMeta = λ k. own_items (suc k) in
      let x = slot f (own_items zero) in
      let first : init_value setting whole (fallback_of left) (slot_at (done ++ x ∷ each slot fs later) (length done)) ≡ Some (value f (own_items zero)) =
      ap (init_value setting whole (fallback_of left)) (at_here done (each slot fs later) x)
      ∙ meant_is whole (fallback_of left) x
      ∙ ap (λ y. init_meant whole y x) zip.0.fallback
      ∙ good.0 in
      let more : init_values setting whole (done ++ x ∷ each slot fs later) (at_slots one_init (length done + 1) lefts) ≡ Some (in_order (each value fs later)) =
      ap₂ (λ xs k. init_values setting whole xs (at_slots one_init k lefts)) (sym (append_assoc done (x ∷ []) (each slot fs later))) (one_more done x)
      ∙ values_of slot value whole lefts fs later (done ++ x ∷ []) zip.1 good.1 in
      ap₂ (in_front setting) first more ∙ in_front_is (value f (own_items zero)) (in_order (each value fs later))

  inits_are : (whole : Datum) (fs : List FieldDecl) (own_items : ℕ → List NestedMeta) → AreGood fs own_items → AreInits full (value_here whole) whole fs own_items
  inits_are whole [] own_items good = tt
  inits_are whole (f ∷ fs) own_items good = (
    init_is f f.shape (fallback body f) whole (own_items zero) refl good.0.0 good.0.1 (missing_is setting before receiver asked aside body all kept f f.shape (own_items zero) ∙ good.0.2),
    inits_are whole fs (λ k. own_items (suc k)) good.1,
  )

  values_are : (whole : Datum) (lefts : List Field) (fs : List FieldDecl) (own_items : ℕ → List NestedMeta) (done : List Slot) → AllZip (IsField body) lefts fs → AreGood fs own_items
      → init_values setting whole (done ++ each full fs own_items) (at_slots one_init (length done) lefts) ≡ Some (in_order (each (value_here whole) fs own_items))
  values_are whole lefts fs own_items done zip good = values_of full (value_here whole) whole lefts fs own_items done zip (inits_are whole fs own_items good)

  pub members_are : (lefts : List Field) (fs : List FieldDecl) (k : ℕ) → AllZip (IsField body) lefts fs → map (λ it. it.member) (at_slots one_init k lefts) ≡ map (λ f. f.member) fs
  members_are [] [] k zip = refl
  members_are [] (f ∷ fs) k zip = absurd zip
  members_are (left ∷ lefts) [] k zip = absurd zip
  members_are (left ∷ lefts) (f ∷ fs) k zip = ap₂ (λ m ms. m ∷ ms) zip.0.member (members_are lefts fs (k + 1) zip.1)

  abbrev mine : ℕ → List NestedMeta
  mine = own body.fields all

  abbrev pub full_state : Datum → List Fault → State
  full_state whole faults = record { slots = each full body.fields mine; faults = faults; kept = kept; whole = whole }

-- ---- the statements behind the errors

module _ (setting : Setting) (before : Before) (receiver : Receiver) (asked : Asked) (aside : Aside) (body : BodyDecl) where
  -- the faults end it, and without any it goes on
  pub stop_settle : (faults : List Fault) (s : State) (ending : List Stmt) (o : Outcome Datum) → ((f : Fault) (fs : List Fault) → go setting before receiver asked aside body ending (Ended f fs) ≡ Ended f fs)
      → (faults ≡ [] → outcome (go setting before receiver asked aside body ending (Going s aside)) ≡ Some o)
      → outcome (go setting before receiver asked aside body ending (unless_faults faults s aside)) ≡ Some (settle faults o)
  stop_settle [] s ending o stays goes = goes refl
  stop_settle (f ∷ fs) s ending o stays goes = ap outcome (stays f fs)

module _ (setting : Setting) (before : Before) (receiver : Receiver) (asked : Asked) (aside : Aside) (decl : Decl) (all kept : List NestedMeta) where
  abbrev earlier_metas : Earlier
  earlier_metas = metas before

  abbrev own_items : ℕ → List NestedMeta
  own_items = own decl.body.fields all

  abbrev state : Datum → List Fault → State
  state whole faults = full_state setting before receiver asked aside decl.body all kept whole faults

  abbrev Good : Type 0
  Good = AreGood setting before receiver asked aside decl.body all kept decl.body.fields own_items

  abbrev pub values_made : Datum → Outcome (List Datum)
  values_made whole = in_order (each (λ f those. field_value setting earlier_metas decl.body whole all f f.shape those) decl.body.fields own_items)

  -- the struct of these values under the names of all members
  abbrev pub plain : Outcome (List Datum) → Outcome Datum
  plain = on_value (λ vs. value.Struct decl.name (built_style receiver asked) (labelled (map (λ f. f.member) decl.body.fields) vs))

  -- the default of the receiver
  abbrev pub default_made : Option DefaultSource → Outcome Datum
  default_made None = Value no_value
  default_made (Some it) = source_value setting receiver.type asked it

  pub default_is : (x : Option DefaultExpression) (d : Option Default) → option_and_then meant_default (option_and_then source x) ≡ d
      → default_made (option_and_then source x) ≡ whole_default setting receiver.type d
  default_is None d e = ap (whole_default setting receiver.type) e
  default_is (Some (defaults.Inherit ident)) d e = ap (whole_default setting receiver.type) e
  default_is (Some (defaults.Explicit call)) d e = ap (whole_default setting receiver.type) e
  default_is (Some (defaults.Trait span)) d e = ap (whole_default setting receiver.type) e

  abbrev run_on : List Stmt → Progress → Progress
  run_on stmts progress = go setting before receiver asked aside decl.body stmts progress

  transform_is : (p : Option PostfixTransform) (o : Outcome Datum) → run_on (transform p) (Built o) ≡ Built (transformed setting earlier_metas p receiver.type o)
  transform_is None o = refl
  transform_is (Some p) o = statement.transform setting before receiver p asked (Built o)

  ended_transform : (p : Option PostfixTransform) (f : Fault) (fs : List Fault) → run_on (transform p) (Ended f fs) ≡ Ended f fs
  ended_transform None f fs = refl
  ended_transform (Some p) f fs = statement.transform setting before receiver p asked (Ended f fs)

  module _ (left : TraitImpl) (is : IsDecl left decl) (parts : List Forwarded) where
    abbrev pub last : List Stmt
    last = build_with parts left ∷ transform (option_copied left.post_transform)

    -- what is built of the parts and the values of all fields, by the default of the receiver
    abbrev pub made : Datum → Outcome Datum
    made whole = built receiver asked aside left.ident.now None parts (inits (fields_of left)) setting (values_made whole)

    -- each part that is to be stored has been, and no fault of a field was collected
    abbrev pub IsReady : Type 0
    IsReady = (are_stored aside parts ≡ true) × Good

    build_is : (whole : Datum) (faults : List Fault) → IsReady → run_on (build_with parts left ∷ []) (Going (state whole faults) aside) ≡ Built (made whole)
    build_is whole faults ready =
        let values = init_values setting whole (state whole faults).slots (inits (fields_of left)) in
        let it : Option (Outcome (List Datum)) → Progress = λ values. built_or_stuck (option_map (built receiver asked aside left.ident.now None parts (inits (fields_of left)) setting) values) in
        statement.build setting before receiver left.ident.now None parts (inits (fields_of left)) asked (Going (state whole faults) aside)
        ∙ ap (λ b. cond b (it values) Stuck) ready.0
        ∙ ap it (values_are setting before receiver asked aside decl.body all kept whole (fields_of left) decl.body.fields own_items [] is.fields ready.1)

    last_is : (whole : Datum) (faults : List Fault) → IsReady → run_on last (Going (state whole faults) aside) ≡ Built (transformed setting earlier_metas decl.transform receiver.type (made whole))
    last_is whole faults ready =
        ap (run_on (transform (option_copied left.post_transform))) (build_is whole faults ready)
        ∙ transform_is (option_copied left.post_transform) (made whole)
        ∙ ap (λ p. Built (transformed setting earlier_metas p receiver.type (made whole))) is.transform

    ended_last : (f : Fault) (fs : List Fault) → run_on last (Ended f fs) ≡ Ended f fs
    ended_last f fs =
        ap (run_on (transform (option_copied left.post_transform))) (statement.build setting before receiver left.ident.now None parts (inits (fields_of left)) asked (Ended f fs))
        ∙ ended_transform (option_copied left.post_transform) f fs

    passed_by : (p : Option PostfixTransform) (f : Fault) (fs : List Fault) → Some (Faults f fs) ≡ Some (transformed setting earlier_metas p receiver.type (Faults f fs))
    passed_by None f fs = refl
    passed_by (Some p) f fs = refl

    -- the default of the receiver first, whose faults end all
    behind_whole : (o : Outcome Datum) (faults : List Fault) → IsReady
        → outcome (run_on last (on_outcome o (λ whole. Going (state whole faults) aside))) ≡ Some (transformed setting earlier_metas decl.transform receiver.type (bind o made))
    behind_whole (Value whole) faults ready = ap outcome (last_is whole faults ready)
    behind_whole (Faults f fs) faults ready = ap outcome (ended_last f fs) ∙ passed_by decl.transform f fs

    pub behind_default : (it : Option DefaultSource) (faults : List Fault) → IsReady
        → outcome (run_on (set_default it ++ last) (Going (state no_value faults) aside)) ≡ Some (transformed setting earlier_metas decl.transform receiver.type (bind (default_made it) made))
    behind_default None faults ready = behind_whole (Value no_value) faults ready
    behind_default (Some it) faults ready =
        ap (λ p. outcome (run_on last p)) (statement.set_default setting before receiver it asked (Going (state no_value faults) aside))
        ∙ behind_whole (source_value setting receiver.type asked it) faults ready

    pub ended_default : (it : Option DefaultSource) (f : Fault) (fs : List Fault) → run_on (set_default it ++ last) (Ended f fs) ≡ Ended f fs
    ended_default None f fs = ended_last f fs
    ended_default (Some it) f fs = ap (run_on last) (statement.set_default setting before receiver it asked (Ended f fs)) ∙ ended_last f fs

  -- without parts, the values stand under the names of their fields
  pub made_plain : (left : TraitImpl) (is : IsDecl left decl) (whole : Datum) → made left is [] whole ≡ plain (values_made whole)
  made_plain left is whole =
      plain_built setting receiver asked aside left.ident.now (inits (fields_of left)) (values_made whole)
      ∙ ap₂ (λ n ms. on_value (λ vs. value.Struct n (built_style receiver asked) (labelled ms vs)) (values_made whole)) is.name
      (members_are setting before receiver asked aside decl.body all kept (fields_of left) decl.body.fields zero is.fields)
