-- A pass of statements over the fields changes each field's slot and adds faults.
use Rattle.std.proofs.Common.{◌≡◌, ℕ, ◌+◌, zero, suc, Bool, true, false, List, [], ◌∷◌, ◌++◌, length, Option, Some, None, option_map, refl, ap, ap₂, ◌∙◌, sym, arith, append_assoc, append-nil, set, length-append, true≢false, if◌then◌else◌}
use Rattle.std.specs.List.{AllZip}
use Rattle.base_core.specs.declared.text.Text.{Text}
use Rattle.tok_types.specs.declared.ident.Ident.{Ident}
use Rattle.node_expr.specs.declared.ty.«Type».{«Type» as Type'}
use Rattle.meta_nested.specs.declared.nested.NestedMeta.{NestedMeta}
use Rattle.error_fault.specs.declared.fault.Fault.{Fault}
use Rattle.error_fault.specs.Outcome.{Outcome, Value, Faults, faults_of, value_of}
use Rattle.machine_value.specs.declared.value.Value.{Value as Datum}
use Rattle.machine_value.specs.Members.{no_value}
use Rattle.codegen_program.specs.declared.stmt.Stmt.{Stmt}
use Rattle.codegen_program.specs.declared.stmt.Stmt.TheVariants as stmt
use Rattle.codegen_core.specs.Defaults.{fallback as left_fallback}
use Rattle.codegen_core.specs.Fields.{at_slots, declaration, flatten, check, check_without}
use Rattle.codegen_core.specs.declared.default_expression.DefaultExpression.{DefaultExpression}
use Rattle.codegen_core.specs.declared.field.Field.{Field}
use Rattle.meaning_core.specs.Decl.{BodyDecl, FieldDecl, Shape, Single, Many, Flat, Fallback, fallback, has_flat, is_flat, is_many, names}
use Rattle.machine_steps.specs.Setting.{Setting}
use Rattle.machine_steps.specs.Convert.{Earlier, none}
use Rattle.meaning_core.specs.Owners.{unclaimed, each}
use Rattle.meaning_core.specs.EntryFaults.{read}
use Rattle.meaning_core.specs.FieldValue.{flat_outcome, flat_faults, missing, missing_by}
use Rattle.meaning_core.specs.Meaning.{joined}
use Rattle.machine_steps.specs.State.{Slot, One, Several, State, put, slot_at}
use Rattle.meaning_core.specs.Walk.{slot_by, field_slot, kept_by}
use Rattle.machine_steps.specs.Asked.{Asked}
use Rattle.machine_steps.specs.Progress.{Aside, Progress, Going}
use Rattle.machine_steps.specs.Reads.{Before, metas}
use Rattle.machine_steps.specs.Receivers.{Receiver}
use Rattle.machine_steps.specs.Slots.{absent, check_missing, read_flat, read_slot}
use Rattle.machine_steps.specs.Statements.{run_from}
use Rattle.machine_steps.proofs.Slots.{declared_next}
use Rattle.machine_steps.proofs.Statements as statement
use Rattle.law_machine.specs.Compiles.{IsField, meant_fallback}

or_false : (b c : Bool) → (if b then true else c) ≡ false → (b ≡ false) × (c ≡ false)
or_false true c e = absurd (true≢false e)
or_false false c e = (refl, e)

-- the slot behind those that are done
pub at_here : (done todo : List Slot) (x : Slot) → slot_at (done ++ x ∷ todo) (length done) ≡ x
at_here [] todo x = refl
at_here (y ∷ ys) todo x = at_here ys todo x

put_here : (done todo : List Slot) (x y : Slot) → set (done ++ x ∷ todo) (length done) y ≡ done ++ y ∷ todo
put_here [] todo x y = refl
put_here (z ∷ zs) todo x y = ap (λ xs. z ∷ xs) (put_here zs todo x y)

pub one_more : (done : List Slot) (x : Slot) → length done + 1 ≡ length (done ++ x ∷ [])
one_more done x = omega (arith, length-append done (x ∷ []))

module _ (setting : Setting) (before : Before) (receiver : Receiver) (asked : Asked) (aside : Aside) (body : BodyDecl) where
  abbrev earlier : Earlier
  earlier = metas before

  abbrev pub go : List Stmt → Progress → Progress
  go stmts progress = run_from setting before receiver stmts asked progress

  abbrev pub with_slots_kept : List NestedMeta → List Slot → List Fault → Progress
  with_slots_kept kept slots faults = Going (record { slots = slots; faults = faults; kept = kept; whole = no_value }) aside

  -- ---- the declarations

  abbrev declaration_by : Bool → Bool → ℕ → Ident → Type' → List Stmt
  declaration_by many flat slot ident ty =
      (if many then stmt.DeclareMany slot ident ty else stmt.DeclareOne slot ident ty) ∷ (if flat then stmt.DeclareBuffer ∷ [] else [])

  declare_one : (f : FieldDecl) (ident : Ident) (xs : List Slot) → go (stmt.DeclareOne (length xs) ident f.type ∷ []) (with_slots_kept [] xs []) ≡ with_slots_kept [] (xs ++ One f.type false None ∷ []) []
  declare_one f ident xs =
      statement.declare_one setting before receiver (length xs) ident f.type asked (with_slots_kept [] xs [])
      ∙ ap (λ ys. with_slots_kept [] ys []) (declared_next xs (One f.type false None))

  declare_by : (s : Shape) (f : FieldDecl) (ident : Ident) (xs : List Slot) → go (declaration_by (is_many s) (is_flat s) (length xs) ident f.type) (with_slots_kept [] xs []) ≡ with_slots_kept [] (xs ++ slot_by setting earlier f s [] ∷ []) []
  declare_by Single f ident xs = declare_one f ident xs
  declare_by Many f ident xs =
      statement.declare_many setting before receiver (length xs) ident f.type asked (with_slots_kept [] xs [])
      ∙ ap (λ ys. with_slots_kept [] ys []) (declared_next xs (Several f.type []))
  declare_by Flat f ident xs =
      ap (go (stmt.DeclareBuffer ∷ [])) (declare_one f ident xs)
      ∙ statement.declare_buffer setting before receiver asked (with_slots_kept [] (xs ++ One f.type false None ∷ []) [])

  declare_field : (left : Field) (f : FieldDecl) (xs : List Slot) → IsField body left f → go (declaration (length xs) left) (with_slots_kept [] xs []) ≡ with_slots_kept [] (xs ++ field_slot setting earlier f [] ∷ []) []
  declare_field left f xs is =
      ap₂ (λ m b. go (declaration_by m b (length xs) left.ident.now left.ty.now) (with_slots_kept [] xs [])) is.many is.flat
      ∙ ap (λ t. go (declaration_by (is_many f.shape) (is_flat f.shape) (length xs) left.ident.now t) (with_slots_kept [] xs [])) is.type
      ∙ declare_by f.shape f left.ident.now xs

  pub run_declarations : (lefts : List Field) (fs : List FieldDecl) (xs : List Slot) → AllZip (IsField body) lefts fs
      → go (at_slots declaration (length xs) lefts) (with_slots_kept [] xs []) ≡ with_slots_kept [] (xs ++ each (field_slot setting earlier) fs (λ j. [])) []
  run_declarations [] [] xs zip = ap (λ x. with_slots_kept [] x []) (sym (append-nil xs))
  run_declarations [] (f ∷ fs) xs zip = absurd zip
  run_declarations (left ∷ lefts) [] xs zip = absurd zip
  run_declarations (left ∷ lefts) (f ∷ fs) xs zip =
      let slot = field_slot setting earlier f [] in
      statement.run_append setting before receiver (declaration (length xs) left) (at_slots declaration (length xs + 1) lefts) asked (with_slots_kept [] xs [])
      ∙ ap (go (at_slots declaration (length xs + 1) lefts)) (declare_field left f xs zip.0)
      ∙ ap (λ k. go (at_slots declaration k lefts) (with_slots_kept [] (xs ++ slot ∷ []) [])) (one_more xs slot)
      ∙ run_declarations lefts fs (xs ++ slot ∷ []) zip.1
      ∙ ap (λ x. with_slots_kept [] x []) (append_assoc xs (slot ∷ []) (each (field_slot setting earlier) fs (λ j. [])))

  -- ---- a pass

  module _ (all kept : List NestedMeta) where
    abbrev pub at_slots_with : List Slot → List Fault → Progress
    at_slots_with slots faults = with_slots_kept kept slots faults

    -- what is kept for a flattened field is what no field owns
    abbrev pub IsKept : FieldDecl → Type 0
    IsKept f = is_flat f.shape ≡ true → kept ≡ unclaimed body.fields all

    abbrev pub AreKept : List FieldDecl → Type 0
    AreKept [] = Unit {0}
    AreKept (f ∷ fs) = IsKept f × AreKept fs

    -- the statements of a field change its slot and add faults
    abbrev pub Passes : (ℕ → Field → List Stmt) → (a b : FieldDecl → List NestedMeta → Slot) → (FieldDecl → List NestedMeta → List Fault) → Type 0
    Passes give a b c =
        (left : Field) (f : FieldDecl) (own_items : List NestedMeta) (done todo : List Slot) (faults : List Fault) → IsField body left f → IsKept f
        → go (give (length done) left) (at_slots_with (done ++ a f own_items ∷ todo) faults) ≡ at_slots_with (done ++ b f own_items ∷ todo) (faults ++ c f own_items)

    pub run_pass : (give : ℕ → Field → List Stmt) (a b : FieldDecl → List NestedMeta → Slot) (c : FieldDecl → List NestedMeta → List Fault) → Passes give a b c
        → (lefts : List Field) (fs : List FieldDecl) (own_items : ℕ → List NestedMeta) (done : List Slot) (faults : List Fault) → AllZip (IsField body) lefts fs → AreKept fs
        → go (at_slots give (length done) lefts) (at_slots_with (done ++ each a fs own_items) faults) ≡ at_slots_with (done ++ each b fs own_items) (faults ++ joined (each c fs own_items))
    run_pass give a b c passes [] [] own_items done faults zip are = ap (λ x. at_slots_with (done ++ []) x) (sym (append-nil faults))
    run_pass give a b c passes [] (f ∷ fs) own_items done faults zip are = absurd zip
    run_pass give a b c passes (left ∷ lefts) [] own_items done faults zip are = absurd zip
    run_pass give a b c passes (left ∷ lefts) (f ∷ fs) own_items done faults zip are =
        let is = own_items zero in
        let later : ℕ → List NestedMeta = λ k. own_items (suc k) in
        let y = b f is in
        let here : done ++ y ∷ each a fs later ≡ (done ++ y ∷ []) ++ each a fs later = sym (append_assoc done (y ∷ []) (each a fs later)) in
        let there : (done ++ y ∷ []) ++ each b fs later ≡ done ++ y ∷ each b fs later = append_assoc done (y ∷ []) (each b fs later) in
        statement.run_append setting before receiver (give (length done) left) (at_slots give (length done + 1) lefts) asked (at_slots_with (done ++ a f is ∷ each a fs later) faults)
        ∙ ap (go (at_slots give (length done + 1) lefts)) (passes left f is done (each a fs later) faults zip.0 are.0)
        ∙ ap₂ (λ k xs. go (at_slots give k lefts) (at_slots_with xs (faults ++ c f is))) (one_more done y) here
        ∙ run_pass give a b c passes lefts fs later (done ++ y ∷ []) (faults ++ c f is) zip.1 are.1
        ∙ ap₂ (λ xs x. at_slots_with xs x) there (append_assoc faults (c f is) (joined (each c fs later)))

    nothing : (slots : List Slot) (faults : List Fault) → at_slots_with slots faults ≡ at_slots_with slots (faults ++ [])
    nothing slots faults = ap (λ x. at_slots_with slots x) (sym (append-nil faults))

    -- ---- the flattened fields

    abbrev pub flat_by : FieldDecl → Shape → List NestedMeta → Slot
    flat_by f Flat own_items = One f.type true (value_of (flat_outcome setting earlier body f all))
    flat_by f Single own_items = slot_by setting earlier f Single own_items
    flat_by f Many own_items = slot_by setting earlier f Many own_items

    read_slot_is : (t : Type') (o : Outcome Datum) → read_slot t o ≡ (One t true (value_of o), faults_of o)
    read_slot_is t (Value v) = refl
    read_slot_is t (Faults f fs) = refl

    abbrev flatten_by : Bool → ℕ → List Stmt
    flatten_by flat slot = if flat then stmt.ReadFlatten slot (names body.fields) ∷ [] else []

    flat_step : (s : Shape) (f : FieldDecl) (own_items : List NestedMeta) (done todo : List Slot) (faults : List Fault) → (is_flat s ≡ true → kept ≡ unclaimed body.fields all)
        → go (flatten_by (is_flat s) (length done)) (at_slots_with (done ++ slot_by setting earlier f s own_items ∷ todo) faults) ≡ at_slots_with (done ++ flat_by f s own_items ∷ todo) (faults ++ flat_faults setting earlier body f s all)
    flat_step Single f own_items done todo faults e = nothing (done ++ slot_by setting earlier f Single own_items ∷ todo) faults
    flat_step Many f own_items done todo faults e = nothing (done ++ slot_by setting earlier f Many own_items ∷ todo) faults
    flat_step Flat f own_items done todo faults e =
        let x : Slot = One f.type false None in
        let o = flat_outcome setting earlier body f all in
        let r : read_flat setting earlier (names body.fields) kept (slot_at (done ++ x ∷ todo) (length done)) ≡ (One f.type true (value_of o), faults_of o) =
        ap₂ (read_flat setting earlier (names body.fields)) (e refl) (at_here done todo x) ∙ read_slot_is f.type o in
        let state : List Slot → List Fault → State = λ xs fs. record { slots = xs; faults = fs; kept = kept; whole = no_value } in
        statement.read_flatten setting before receiver (length done) (names body.fields) asked (at_slots_with (done ++ x ∷ todo) faults)
        ∙ ap (λ q. Going (put (length done) q (state (done ++ x ∷ todo) faults)) aside) r
        ∙ ap (λ xs. at_slots_with xs (faults ++ faults_of o)) (put_here done todo x (One f.type true (value_of o)))

    abbrev pub flat_slot : FieldDecl → List NestedMeta → Slot
    flat_slot f own_items = flat_by f f.shape own_items

    abbrev pub flat_added : FieldDecl → List NestedMeta → List Fault
    flat_added f own_items = flat_faults setting earlier body f f.shape all

    pub run_flattens : (lefts : List Field) (fs : List FieldDecl) (own_items : ℕ → List NestedMeta) (faults : List Fault) → AllZip (IsField body) lefts fs → AreKept fs
        → go (at_slots (flatten (names body.fields)) zero lefts) (at_slots_with (each (field_slot setting earlier) fs own_items) faults) ≡ at_slots_with (each flat_slot fs own_items) (faults ++ joined (each flat_added fs own_items))
    run_flattens lefts fs own_items faults zip are =
        run_pass (flatten (names body.fields)) (field_slot setting earlier) flat_slot flat_added
        (λ left f is done todo fs isf kept_is. ap (λ b. go (flatten_by b (length done)) (at_slots_with (done ++ field_slot setting earlier f is ∷ todo) fs)) isf.flat ∙ flat_step f.shape f is done todo fs kept_is)
        lefts fs own_items [] faults zip are

    -- ---- the missing fields

    abbrev pub full_by : FieldDecl → Shape → Option Fallback → List NestedMeta → Slot
    full_by f Flat x own_items = One f.type true (value_of (flat_outcome setting earlier body f all))
    full_by f Many x own_items = slot_by setting earlier f Many own_items
    full_by f Single None [] = (absent f.type f.name (none setting earlier f.type)).0
    full_by f Single (Some x) [] = One f.type false None
    full_by f Single x (i ∷ more) = One f.type true (value_of (read setting earlier f i))

    abbrev pub missing_full : FieldDecl → Shape → Option Fallback → List NestedMeta → List Fault
    missing_full f Single x [] = missing_by setting earlier body f x (none setting earlier f.type)
    missing_full f Single x (i ∷ more) = []
    missing_full f Many x own_items = []
    missing_full f Flat x own_items = []

    abbrev pub check_meant : Bool → Option Fallback → ℕ → Type' → Text → List Stmt
    check_meant true x k t name = []
    check_meant false None k t name = stmt.CheckMissing k t name ∷ []
    check_meant false (Some x) k t name = []

    check_is : (m : Bool) (x : Option DefaultExpression) (k : ℕ) (left : Field) → (if m then [] else check_without x k left) ≡ check_meant m (option_map meant_fallback (option_map left_fallback x)) k left.ty.now left.name_in_attr.now
    check_is true x k left = refl
    check_is false None k left = refl
    check_is false (Some x) k left = refl

    absent_faults : (f : FieldDecl) (v : Option Datum) → (absent f.type f.name v).1 ≡ missing_by setting earlier body f None v
    absent_faults f None = refl
    absent_faults f (Some v) = refl

    -- a check of a slot that stays
    stays : (done : List Slot) (t : Type') (name : Text) (x : Slot) (todo : List Slot) (faults : List Fault) → check_missing setting earlier t name x ≡ (x, [])
        → go (stmt.CheckMissing (length done) t name ∷ []) (at_slots_with (done ++ x ∷ todo) faults) ≡ at_slots_with (done ++ x ∷ todo) (faults ++ [])
    stays done t name x todo faults e =
        let state : List Slot → List Fault → State = λ xs fs. record { slots = xs; faults = fs; kept = kept; whole = no_value } in
        statement.check_missing setting before receiver (length done) t name asked (at_slots_with (done ++ x ∷ todo) faults)
        ∙ ap (λ q. Going (put (length done) q (state (done ++ x ∷ todo) faults)) aside) (ap (check_missing setting earlier t name) (at_here done todo x) ∙ e)
        ∙ ap (λ xs. at_slots_with xs (faults ++ [])) (put_here done todo x x)

    pub check_step : (s : Shape) (x : Option Fallback) (f : FieldDecl) (own_items : List NestedMeta) (done todo : List Slot) (faults : List Fault)
        → go (check_meant (is_many s) x (length done) f.type f.name) (at_slots_with (done ++ flat_by f s own_items ∷ todo) faults) ≡ at_slots_with (done ++ full_by f s x own_items ∷ todo) (faults ++ missing_full f s x own_items)
    check_step Single None f [] done todo faults =
        let x : Slot = One f.type false None in
        let state : List Slot → List Fault → State = λ xs fs. record { slots = xs; faults = fs; kept = kept; whole = no_value } in
        statement.check_missing setting before receiver (length done) f.type f.name asked (at_slots_with (done ++ x ∷ todo) faults)
        ∙ ap (λ q. Going (put (length done) (check_missing setting earlier f.type f.name q) (state (done ++ x ∷ todo) faults)) aside) (at_here done todo x)
        ∙ ap₂ (λ xs e. at_slots_with xs (faults ++ e)) (put_here done todo x (absent f.type f.name (none setting earlier f.type)).0) (absent_faults f (none setting earlier f.type))
    check_step Single None f (i ∷ more) done todo faults = stays done f.type f.name (One f.type true (value_of (read setting earlier f i))) todo faults refl
    check_step Single (Some x) f [] done todo faults = nothing (done ++ One f.type false None ∷ todo) faults
    check_step Single (Some x) f (i ∷ more) done todo faults = nothing (done ++ One f.type true (value_of (read setting earlier f i)) ∷ todo) faults
    check_step Many x f own_items done todo faults = nothing (done ++ slot_by setting earlier f Many own_items ∷ todo) faults
    check_step Flat None f own_items done todo faults = stays done f.type f.name (One f.type true (value_of (flat_outcome setting earlier body f all))) todo faults refl
    check_step Flat (Some x) f own_items done todo faults = nothing (done ++ One f.type true (value_of (flat_outcome setting earlier body f all)) ∷ todo) faults

    pub missing_is : (f : FieldDecl) (s : Shape) (own_items : List NestedMeta) → missing_full f s (fallback body f) own_items ≡ missing setting earlier body f s own_items
    missing_is f Single [] = refl
    missing_is f Single (i ∷ more) = refl
    missing_is f Many own_items = refl
    missing_is f Flat own_items = refl

    abbrev pub full_slot : FieldDecl → List NestedMeta → Slot
    full_slot f own_items = full_by f f.shape (fallback body f) own_items

    abbrev pub missing_added : FieldDecl → List NestedMeta → List Fault
    missing_added f own_items = missing setting earlier body f f.shape own_items

    pub check_of : (left : Field) (f : FieldDecl) (k : ℕ) → IsField body left f → check k left ≡ check_meant (is_many f.shape) (fallback body f) k f.type f.name
    check_of left f k is =
        check_is left.multiple left.default_expression k left
        ∙ ap₂ (λ m x. check_meant m x k left.ty.now left.name_in_attr.now) is.many is.fallback
        ∙ ap₂ (check_meant (is_many f.shape) (fallback body f) k) is.type is.name

    check_field : Passes check flat_slot full_slot missing_added
    check_field left f is done todo faults isf kept_is =
        let p = at_slots_with (done ++ flat_slot f is ∷ todo) faults in
        ap (λ ss. go ss p) (check_of left f (length done) isf)
        ∙ check_step f.shape (fallback body f) f is done todo faults
        ∙ ap (λ x. at_slots_with (done ++ full_slot f is ∷ todo) (faults ++ x)) (missing_is f f.shape is)

    pub run_checks : (lefts : List Field) (fs : List FieldDecl) (own_items : ℕ → List NestedMeta) (faults : List Fault) → AllZip (IsField body) lefts fs → AreKept fs
        → go (at_slots check zero lefts) (at_slots_with (each flat_slot fs own_items) faults) ≡ at_slots_with (each full_slot fs own_items) (faults ++ joined (each missing_added fs own_items))
    run_checks lefts fs own_items faults zip are = run_pass check flat_slot full_slot missing_added check_field lefts fs own_items [] faults zip are

  -- ---- what is kept

  are_all : (all : List NestedMeta) (fs : List FieldDecl) → AreKept all (unclaimed body.fields all) fs
  are_all all [] = tt
  are_all all (f ∷ fs) = (λ q. refl, are_all all fs)

  pub are_kept : (all : List NestedMeta) (fs : List FieldDecl) (b : Bool) → has_flat fs ≡ b → AreKept all (kept_by setting earlier body b all) fs
  are_kept all [] b e = tt
  are_kept all (f ∷ fs) true e = (λ q. refl, are_all all fs)
  are_kept all (f ∷ fs) false e = let p = or_false (is_flat f.shape) (has_flat fs) e in (λ q. absurd (true≢false (sym q ∙ p.0)), are_kept all fs false p.1)

  pub nothing_kept : (b : Bool) → [] ≡ kept_by setting earlier body b []
  nothing_kept true = refl
  nothing_kept false = refl
