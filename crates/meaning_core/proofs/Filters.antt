-- A walk fills slots as the filters of its entries say.
use Rattle.std.proofs.Common.{◌≡◌, ℕ, ◌+◌, ◌<◌, zero, suc, Bool, true, false, cond, List, [], ◌∷◌, ◌++◌, length, Option, Some, None, option_map, option_and_then, is_none, filter, fold, refl, ap, ◌∙◌, sym, arith, append_assoc, append-nil, set, ⊎_elim, bytes_eq, zero-add, true≢false, ap₂}
use mathlib.Core.Path.{fun_ext}
use Rattle.std.proofs.lemmas.Bool.Decides.{eqb_tells}
use Rattle.base_core.specs.declared.text.Text.{Text}
use Rattle.machine_steps.specs.NestedMeta.{NestedMeta}
use Rattle.error_fault.specs.declared.fault.Fault.{Fault}
use Rattle.error_fault.specs.declared.kind.FaultKind.TheVariants.{UnknownField}
use Rattle.error_fault.specs.Kind.{set_of}
use Rattle.error_fault.specs.Fault.{at_span}
use Rattle.error_fault.specs.Faults.{at}
use Rattle.error_fault.specs.Outcome.{Outcome, Value, Faults, faults_of, value_of}
use Rattle.machine_value.specs.declared.value.Value.{Value as Datum}
use Rattle.machine_value.specs.Members.{no_value}
use Rattle.machine_steps.specs.Nodes.{nested_span}
use Rattle.node_expr.specs.declared.ty.«Type».{«Type» as Type'}
use Rattle.codegen_program.specs.declared.arm.Arm.{Arm}
use Rattle.meaning_core.specs.Decl.{Shape, Single, Many, Flat, FieldDecl, BodyDecl, is_named, is_named_by, has_flat, names}
use Rattle.machine_steps.specs.Names.{item_name}
use Rattle.machine_steps.specs.Setting.{Setting}
use Rattle.machine_steps.specs.Convert.{Earlier}
use Rattle.meaning_core.specs.EntryFaults.{element_by, read, value_list, values, own_faults, unknown, item_faults, named_faults, entry_faults, all_entry_faults}
use Rattle.meta_entries.specs.Entries.{items}
use Rattle.meta_entries.specs.declared.entry.Entry.{Entry}
use Rattle.meta_entries.specs.declared.entry.Entry.TheVariants as entry
use Rattle.meta_entries.proofs.ItemLemmas.{items-append}
use Rattle.meaning_core.specs.Owners.{owner, owner_named, is_this, own, is_unclaimed, is_unclaimed_name, field_at, each}
use Rattle.machine_steps.specs.Reading.{label, read_at}
use Rattle.machine_steps.specs.State.{Slot, One, Several, State, find_arm, put, slot_at, filled, pushed, by_rest, arm_slot, by_arm, by_name}
use Rattle.meaning_core.specs.EntrySteps.{arm, arms_from, arms, rest, rest_by, entry_step}
use Rattle.meaning_core.specs.Walk.{slot_by, field_slot, kept_by, state_behind, WalkIsFilters}

-- filters of one more item
filter_more : {A : Type 0} (p : A → Bool) (xs : List A) (x : A) → filter p (xs ++ x ∷ []) ≡ filter p xs ++ cond (p x) (x ∷ []) []
filter_more p [] x = refl
filter_more p (y ∷ ys) x =
    elim (p y) as (λ b. cond b (y ∷ filter p (ys ++ x ∷ [])) (filter p (ys ++ x ∷ [])) ≡ cond b (y ∷ filter p ys) (filter p ys) ++ cond (p x) (x ∷ []) [])
    [ true ↦ ap (λ zs. y ∷ zs) (filter_more p ys x) | false ↦ filter_more p ys x ]

pub filter_none : {A : Type 0} (p : A → Bool) (xs : List A) (x : A) → p x ≡ false → filter p (xs ++ x ∷ []) ≡ filter p xs
filter_none p xs x e = filter_more p xs x ∙ ap (λ b. filter p xs ++ cond b (x ∷ []) []) e ∙ append-nil (filter p xs)

pub filter_one : {A : Type 0} (p : A → Bool) (xs : List A) (x : A) → p x ≡ true → filter p (xs ++ x ∷ []) ≡ filter p xs ++ x ∷ []
filter_one p xs x e = filter_more p xs x ∙ ap (λ b. filter p xs ++ cond b (x ∷ []) []) e

pub same : (k : ℕ) → is_this k (Some k) ≡ true
same k = ⊎_elim (λ q. q.0) (λ q. absurd (q.1 refl)) (eqb_tells k k)

pub other : (k j : ℕ) → ¬ (k ≡ j) → is_this j (Some k) ≡ false
other k j ne = ⊎_elim (λ q. absurd (ne q.1)) (λ q. q.0) (eqb_tells k j)

-- the arm of a name is that of its owner
arm_next : (f : FieldDecl) (fs : List FieldDecl) (j : ℕ) (o : Option ℕ) → option_map (λ k. arm (suc j + k) (field_at fs k)) o ≡ option_map (λ k. arm (j + k) (field_at (f ∷ fs) k)) (option_map suc o)
arm_next f fs j None = refl
arm_next f fs j (Some k) = let e : suc j + k ≡ j + suc k = omega arith in ap (λ m. let x : Option Arm = Some (arm m (field_at fs k)) in x) e

arm_first : (f : FieldDecl) (fs : List FieldDecl) (j : ℕ) → Some (arm j f) ≡ option_map (λ k. arm (j + k) (field_at (f ∷ fs) k)) (Some zero)
arm_first f fs j = let e : j ≡ j + zero = omega arith in ap (λ m. let x : Option Arm = Some (arm m f) in x) e

pub arm_from : (fs : List FieldDecl) (n : Text) (j : ℕ) → find_arm (arms_from j fs) n ≡ option_map (λ k. arm (j + k) (field_at fs k)) (owner_named fs n)
arm_from [] n j = refl
arm_from (f ∷ fs) n j =
    let next : find_arm (arms_from (suc j) fs) n ≡ option_map (λ k. arm (j + k) (field_at (f ∷ fs) k)) (option_map suc (owner_named fs n)) = arm_from fs n (suc j) ∙ arm_next f fs j (owner_named fs n) in
    elim (is_named f) as (λ b. find_arm (cond b (arm j f ∷ arms_from (suc j) fs) (arms_from (suc j) fs)) n ≡ option_map (λ k. arm (j + k) (field_at (f ∷ fs) k)) (cond (cond b (bytes_eq f.name n) false) (Some zero) (option_map suc (owner_named fs n)))) [
      | true ↦
          elim (bytes_eq f.name n) as (λ c. cond c (Some (arm j f)) (find_arm (arms_from (suc j) fs) n) ≡ option_map (λ k. arm (j + k) (field_at (f ∷ fs) k)) (cond c (Some zero) (option_map suc (owner_named fs n))))
          [ true ↦ arm_first f fs j | false ↦ next ]
      | false ↦ next
    ]

pub arm_is_owner : (fs : List FieldDecl) (n : Text) → find_arm (arms_from zero fs) n ≡ option_map (λ k. arm k (field_at fs k)) (owner_named fs n)
arm_is_owner fs n = arm_from fs n zero ∙ ap (λ (g : ℕ → Arm). option_map g (owner_named fs n)) (fun_ext (λ k. ap (λ m. arm m (field_at fs k)) (zero-add k)))

-- an owner is one of the fields, and has a name
abbrev pub OnOwner : List FieldDecl → Option ℕ → Type 0
OnOwner fs None = Unit {0}
OnOwner fs (Some k) = (k < length fs) × (is_named (field_at fs k) ≡ true)

owner_next : (f : FieldDecl) (fs : List FieldDecl) (o : Option ℕ) → OnOwner fs o → OnOwner (f ∷ fs) (option_map suc o)
owner_next f fs None on = tt
owner_next f fs (Some k) on = (omega (arith, on.0), on.1)

owner_by : (f : FieldDecl) (fs : List FieldDecl) (b c : Bool) (o : Option ℕ) → is_named f ≡ b → OnOwner fs o → OnOwner (f ∷ fs) (cond (cond b c false) (Some zero) (option_map suc o))
owner_by f fs true true o e on = (omega arith, e)
owner_by f fs true false o e on = owner_next f fs o on
owner_by f fs false c o e on = owner_next f fs o on

pub owner_on : (fs : List FieldDecl) (n : Text) → OnOwner fs (owner_named fs n)
owner_on [] n = tt
owner_on (f ∷ fs) n = owner_by f fs (is_named f) (bytes_eq f.name n) (owner_named fs n) refl (owner_on fs n)

-- something of each field, at one place
pub each_at : (g : FieldDecl → List NestedMeta → Slot) (fs : List FieldDecl) (k : ℕ) (is : ℕ → List NestedMeta) → k < length fs → slot_at (each g fs is) k ≡ g (field_at fs k) (is k)
each_at g [] k is lt = absurd (omega (arith, lt))
each_at g (f ∷ fs) zero is lt = refl
each_at g (f ∷ fs) (suc k) is lt = each_at g fs k (λ j. is (suc j)) (omega (arith, lt))

each_put : (g : FieldDecl → List NestedMeta → Slot) (fs : List FieldDecl) (k : ℕ) (old new : ℕ → List NestedMeta) → ((j : ℕ) → ¬ (j ≡ k) → new j ≡ old j) → each g fs new ≡ set (each g fs old) k (g (field_at fs k) (new k))
each_put g [] k old new others = refl
each_put g (f ∷ fs) zero old new others =
    ap (λ (is : ℕ → List NestedMeta). g f (new zero) ∷ each g fs is) (fun_ext (λ j. others (suc j) (λ e. omega (arith, e))))
each_put g (f ∷ fs) (suc k) old new others =
    ap (λ is. g f is ∷ each g fs (λ j. new (suc j))) (others zero (λ e. omega (arith, e)))
    ∙ ap (λ xs. g f (old zero) ∷ xs) (each_put g fs k (λ j. old (suc j)) (λ j. new (suc j)) (λ j ne. others (suc j) (λ e. ne (omega (arith, e)))))

module _ (setting : Setting) (earlier : Earlier) where
  filled_is : (t : Type') (name : Text) (o : Outcome Datum) → filled t name o ≡ (One t true (value_of o), at (faults_of o) name)
  filled_is t name (Value v) = refl
  filled_is t name (Faults f fs) = refl

  pushed_is : (t : Type') (vs : List Datum) (name : Text) (o : Outcome Datum) → pushed t vs name o ≡ (Several t (vs ++ value_list setting earlier o), at (faults_of o) (label name (length vs)))
  pushed_is t vs name (Value v) = refl
  pushed_is t vs name (Faults f fs) = ap (λ xs. let r : Slot × List Fault = (Several t xs, at (f ∷ fs) (label name (length vs))) in r) (sym (append-nil vs))

  values_more : (f : FieldDecl) (is : List NestedMeta) (i : NestedMeta) → values setting earlier f (is ++ i ∷ []) ≡ values setting earlier f is ++ value_list setting earlier (read setting earlier f i)
  values_more f [] i = append-nil (value_list setting earlier (read setting earlier f i))
  values_more f (x ∷ xs) i = ap (λ vs. value_list setting earlier (read setting earlier f x) ++ vs) (values_more f xs i) ∙ sym (append_assoc (value_list setting earlier (read setting earlier f x)) (values setting earlier f xs) (value_list setting earlier (read setting earlier f i)))

  -- an arm does to a slot what one more item does to the filter
  arm_is : (f : FieldDecl) (k : ℕ) (i : NestedMeta) (s : Shape) (is : List NestedMeta) → f.shape ≡ s → is_named_by s f.skip ≡ true → arm_slot setting earlier (arm k f) i (slot_by setting earlier f s is) ≡ (slot_by setting earlier f s (is ++ i ∷ []), own_faults setting earlier f s is i)
  arm_is f k i Single [] e n =
      filled_is f.type f.name (read_at setting earlier f.with f.transform f.type i)
      ∙ ap (λ s. let o = read_at setting earlier f.with f.transform (element_by setting s f.type) i in let r : Slot × List Fault = (One f.type true (value_of o), at (faults_of o) f.name) in r) (sym e)
  arm_is f k i Single (x ∷ xs) e n = refl
  arm_is f k i Many is e n =
      ap (λ s. pushed f.type (values setting earlier f is) f.name (read_at setting earlier f.with f.transform (element_by setting s f.type) i)) (sym e)
      ∙ pushed_is f.type (values setting earlier f is) f.name (read setting earlier f i)
      ∙ ap (λ vs. let r : Slot × List Fault = (Several f.type vs, at (faults_of (read setting earlier f i)) (label f.name (length (values setting earlier f is)))) in r) (sym (values_more f is i))
  arm_is f k i Flat is e n = absurd (true≢false (sym n))

  module _ (body : BodyDecl) where
    rested : (b a : Bool) (ns : List Text) (n : Text) (i : NestedMeta) (xs : List Slot) (fs : List Fault) (before : List NestedMeta) → is_unclaimed body.fields i ≡ true
        → by_rest (rest_by b a ns) n i (record { slots = xs; faults = fs; kept = kept_by setting earlier body b before; whole = no_value })
        ≡ record { slots = xs; faults = fs ++ cond b [] (cond a [] (at_span (UnknownField n (set_of ns)) (nested_span i) ∷ [])); kept = kept_by setting earlier body b (before ++ i ∷ []); whole = no_value }
    rested true a ns n i xs fs before e =
        ap₂ (λ fs is. let s : State = record { slots = xs; faults = fs; kept = is; whole = no_value } in s) (sym (append-nil fs)) (sym (filter_one (is_unclaimed body.fields) before i e))
    rested false true ns n i xs fs before e = ap (λ fs. let s : State = record { slots = xs; faults = fs; kept = []; whole = no_value } in s) (sym (append-nil fs))
    rested false false ns n i xs fs before e = refl

    kept_claimed : (b : Bool) (before : List NestedMeta) (i : NestedMeta) → is_unclaimed body.fields i ≡ false → kept_by setting earlier body b before ≡ kept_by setting earlier body b (before ++ i ∷ [])
    kept_claimed true before i e = sym (filter_none (is_unclaimed body.fields) before i e)
    kept_claimed false before i e = refl

    -- an item that no field owns leaves the slots
    slots_stay : (before : List NestedMeta) (i : NestedMeta) → owner body.fields i ≡ None → each (field_slot setting earlier) body.fields (own body.fields before) ≡ each (field_slot setting earlier) body.fields (own body.fields (before ++ i ∷ []))
    slots_stay before i e = ap (each (field_slot setting earlier) body.fields) (fun_ext (λ k. sym (filter_none (λ j. is_this k (owner body.fields j)) before i (ap (is_this k) e))))

    one_item : (before : List NestedMeta) (fs : List Fault) (n : Text) (i : NestedMeta) (o : Option ℕ) → owner body.fields i ≡ o → is_unclaimed body.fields i ≡ is_none o → OnOwner body.fields o
        → by_arm setting earlier (arms body) (rest body) n i (option_map (λ k. arm k (field_at body.fields k)) o) (state_behind setting earlier body before fs) ≡ state_behind setting earlier body (before ++ i ∷ []) (fs ++ item_faults setting earlier body before n i o)
    one_item before fs n i None e u on =
        rested (has_flat body.fields) body.allows_unknown (names body.fields) n i (each (field_slot setting earlier) body.fields (own body.fields before)) fs before u
        ∙ ap (λ xs. let s : State = record { slots = xs; faults = fs ++ unknown setting earlier body n (nested_span i); kept = kept_by setting earlier body (has_flat body.fields) (before ++ i ∷ []); whole = no_value } in s) (slots_stay before i e)
    one_item before fs n i (Some k) e u on =
        let f = field_at body.fields k in
        let mine = own body.fields before k in
        let more : own body.fields (before ++ i ∷ []) k ≡ mine ++ i ∷ [] = filter_one (λ j. is_this k (owner body.fields j)) before i (ap (is_this k) e ∙ same k) in
        let r : arm_slot setting earlier (arm k f) i (slot_at (each (field_slot setting earlier) body.fields (own body.fields before)) k) ≡ (field_slot setting earlier f (mine ++ i ∷ []), own_faults setting earlier f f.shape mine i) =
        ap (arm_slot setting earlier (arm k f) i) (each_at (field_slot setting earlier) body.fields k (own body.fields before) on.0) ∙ arm_is f k i f.shape mine refl on.1 in
        let slots : set (each (field_slot setting earlier) body.fields (own body.fields before)) k (field_slot setting earlier f (mine ++ i ∷ [])) ≡ each (field_slot setting earlier) body.fields (own body.fields (before ++ i ∷ [])) =
        ap (λ is. set (each (field_slot setting earlier) body.fields (own body.fields before)) k (field_slot setting earlier f is)) (sym more)
        ∙ sym (each_put (field_slot setting earlier) body.fields k (own body.fields before) (own body.fields (before ++ i ∷ [])) (λ j ne. filter_none (λ x. is_this j (owner body.fields x)) before i (ap (is_this j) e ∙ other k j (λ q. ne (sym q))))) in
        ap (λ x. put k x (state_behind setting earlier body before fs)) r
        ∙ ap₂ (λ xs is. let s : State = record { slots = xs; faults = fs ++ own_faults setting earlier f f.shape mine i; kept = is; whole = no_value } in s) slots (kept_claimed (has_flat body.fields) before i u)

    one_named : (before : List NestedMeta) (fs : List Fault) (i : NestedMeta) (n : Option Text) → item_name i ≡ n
        → by_name setting earlier (arms body) (rest body) (state_behind setting earlier body before fs) i n ≡ state_behind setting earlier body (before ++ i ∷ []) (fs ++ named_faults setting earlier body before i n)
    one_named before fs i None e =
        ap₂ (λ xs is. let s : State = record { slots = xs; faults = fs ++ named_faults setting earlier body before i None; kept = is; whole = no_value } in s)
        (slots_stay before i (ap (option_and_then (owner_named body.fields)) e)) (kept_claimed (has_flat body.fields) before i (ap (is_unclaimed_name body.fields) e))
    one_named before fs i (Some n) e =
        ap (λ a. by_arm setting earlier (arms body) (rest body) n i a (state_behind setting earlier body before fs)) (arm_is_owner body.fields n)
        ∙ one_item before fs n i (owner_named body.fields n) (ap (option_and_then (owner_named body.fields)) e) (ap (is_unclaimed_name body.fields) e) (owner_on body.fields n)

    one_entry : (before : List NestedMeta) (fs : List Fault) (e : Entry) → entry_step setting earlier body (state_behind setting earlier body before fs) e ≡ state_behind setting earlier body (before ++ items (e ∷ [])) (fs ++ entry_faults setting earlier body before e)
    one_entry before fs (entry.Fault f) = ap (λ is. state_behind setting earlier body is (fs ++ f ∷ [])) (sym (append-nil before))
    one_entry before fs (entry.Item i) = one_named before fs i (item_name i) refl

    pub walk : (before : List NestedMeta) (fs : List Fault) (es : List Entry) → fold (entry_step setting earlier body) (state_behind setting earlier body before fs) es ≡ state_behind setting earlier body (before ++ items es) (fs ++ all_entry_faults setting earlier body before es)
    walk before fs [] = ap₂ (state_behind setting earlier body) (sym (append-nil before)) (sym (append-nil fs))
    walk before fs (e ∷ es) =
        ap (λ s. fold (entry_step setting earlier body) s es) (one_entry before fs e)
        ∙ walk (before ++ items (e ∷ [])) (fs ++ entry_faults setting earlier body before e) es
        ∙ ap₂ (state_behind setting earlier body) (append_assoc before (items (e ∷ [])) (items es) ∙ ap (λ is. before ++ is) (sym (items-append (e ∷ []) es))) (append_assoc fs (entry_faults setting earlier body before e) (all_entry_faults setting earlier body (before ++ items (e ∷ [])) es))

pub walk_is_filters : WalkIsFilters
walk_is_filters setting earlier body es = walk setting earlier body [] [] es
