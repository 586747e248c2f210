-- A loop over items whose first slot is a later one does to the slots there what it does from the first on.
use Rattle.std.proofs.Common.{◌≡◌, ℕ, ◌+◌, zero, suc, true, false, List, [], ◌∷◌, ◌++◌, length, fold, Option, Some, None, option_map, refl, ap, ◌∙◌, sym, arith, set}
use Rattle.base_core.specs.declared.text.Text.{Text}
use Rattle.meta_nested.specs.declared.nested.NestedMeta.{NestedMeta}
use Rattle.codegen_program.specs.declared.arm.Arm.{Arm}
use Rattle.codegen_program.specs.declared.arm.Rest.{Rest}
use Rattle.codegen_program.specs.declared.arm.Rest.TheVariants as rests
use Rattle.machine_steps.specs.Convert.{Earlier}
use Rattle.machine_steps.specs.Names.{item_name}
use Rattle.machine_steps.specs.Setting.{Setting}
use Rattle.machine_steps.specs.State.{Slot, One, Several, State, arm_slot, by_arm, by_name, by_rest, declared, nowhere, put, slot_at, step}
use Rattle.meaning_core.specs.Decl.{BodyDecl, FieldDecl}
use Rattle.meaning_core.specs.EntrySteps.{arm, arms, arms_from, rest}
use Rattle.meaning_core.specs.Owners.{field_at, owner_named}
use Rattle.meaning_core.proofs.Filters.{arm_from, arm_is_owner}

-- slots that are nowhere
abbrev pub pads : ℕ → List Slot
pads zero = []
pads (suc n) = nowhere ∷ pads n

pub pads_length : (n : ℕ) → length (pads n) ≡ n
pads_length zero = refl
pads_length (suc n) = ap suc (pads_length n)

-- where no slot is, a slot is declared as behind those that are nowhere
pub declared_padded : (n : ℕ) (x : Slot) → declared n x [] ≡ declared n x (pads n)
declared_padded zero x = refl
declared_padded (suc n) x = ap (λ xs. nowhere ∷ xs) (declared_padded n x)

at_behind : (done xs : List Slot) (k : ℕ) → slot_at (done ++ xs) (length done + k) ≡ slot_at xs k
at_behind [] xs k = ap (slot_at xs) (let e : zero + k ≡ k = omega arith in e)
at_behind (y ∷ ys) xs k = ap (slot_at (y ∷ (ys ++ xs))) (let e : suc (length ys) + k ≡ suc (length ys + k) = omega arith in e) ∙ at_behind ys xs k

put_behind : (done xs : List Slot) (k : ℕ) (y : Slot) → set (done ++ xs) (length done + k) y ≡ done ++ set xs k y
put_behind [] xs k y = ap (λ n. set xs n y) (let e : zero + k ≡ k = omega arith in e)
put_behind (z ∷ zs) xs k y =
    ap (λ n. set (z ∷ (zs ++ xs)) n y) (let e : suc (length zs) + k ≡ suc (length zs + k) = omega arith in e)
    ∙ ap (λ them. z ∷ them) (put_behind zs xs k y)

-- the state whose slots stand behind these
abbrev pub behind : List Slot → State → State
behind done state = record state { slots = done ++ state.slots }

rest_behind : (done : List Slot) (others : Rest) (name : Text) (item : NestedMeta) (state : State) → by_rest others name item (behind done state) ≡ behind done (by_rest others name item state)
rest_behind done rests.Buffer name item state = refl
rest_behind done rests.Ignore name item state = refl
rest_behind done (rests.Unknown alternatives) name item state = refl

module _ (setting : Setting) (earlier : Earlier) (body : BodyDecl) where
  -- what an arm makes of a slot does not rest on the number of the slot
  arm_same : (a b : ℕ) (f : FieldDecl) (item : NestedMeta) (x : Slot) → arm_slot setting earlier (arm a f) item x ≡ arm_slot setting earlier (arm b f) item x
  arm_same a b f item (One type true value) = refl
  arm_same a b f item (One type false value) = refl
  arm_same a b f item (Several type values) = refl

  arm_behind : (done : List Slot) (first second : List Arm) (others : Rest) (name : Text) (item : NestedMeta) (o : Option ℕ) (state : State)
      → by_arm setting earlier first others name item (option_map (λ j. arm (length done + j) (field_at body.fields j)) o) (behind done state)
      ≡ behind done (by_arm setting earlier second others name item (option_map (λ j. arm j (field_at body.fields j)) o) state)
  arm_behind done first second others name item None state = rest_behind done others name item state
  arm_behind done first second others name item (Some j) state =
      let f = field_at body.fields j in
      let k = length done + j in
      let change = arm_slot setting earlier (arm j f) item (slot_at state.slots j) in
      ap (λ q. put k q (behind done state))
      (arm_same k j f item (slot_at (done ++ state.slots) k) ∙ ap (arm_slot setting earlier (arm j f) item) (at_behind done state.slots j))
      ∙ ap (λ xs. let s : State = record { slots = xs; faults = state.faults ++ change.1; kept = state.kept; whole = state.whole } in s) (put_behind done state.slots j change.0)

  name_behind : (done : List Slot) (item : NestedMeta) (n : Option Text) (state : State)
      → by_name setting earlier (arms_from (length done) body.fields) (rest body) (behind done state) item n ≡ behind done (by_name setting earlier (arms body) (rest body) state item n)
  name_behind done item None state = refl
  name_behind done item (Some n) state =
      ap (λ a. by_arm setting earlier (arms_from (length done) body.fields) (rest body) n item a (behind done state)) (arm_from body.fields n (length done))
      ∙ arm_behind done (arms_from (length done) body.fields) (arms body) (rest body) n item (owner_named body.fields n) state
      ∙ ap (λ a. behind done (by_arm setting earlier (arms body) (rest body) n item a state)) (sym (arm_is_owner body.fields n))

  pub items_behind : (done : List Slot) (is : List NestedMeta) (s : State)
      → fold (step setting earlier (arms_from (length done) body.fields) (rest body)) (behind done s) is ≡ behind done (fold (step setting earlier (arms body) (rest body)) s is)
  items_behind done [] s = refl
  items_behind done (i ∷ is) s =
      ap (λ t. fold (step setting earlier (arms_from (length done) body.fields) (rest body)) t is) (name_behind done i (item_name i) s)
      ∙ items_behind done is (step setting earlier (arms body) (rest body) s i)
