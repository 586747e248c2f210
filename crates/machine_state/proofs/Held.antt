-- Slots that are taken out and put back.
use Rattle.std.proofs.Common.{◌≡◌, ◌≤◌, ℕ, zero, suc, List, [], ◌∷◌, ◌++◌, length, map, set, Some, None, Result, refl, ap, ap₂, sym, ◌∙◌, arith}
use Rattle.std.specs.Prelude.{slice_get}
use Rattle.std.specs.Result.{OnOk}
use Rattle.std.proofs.lemmas.List.{map-set}
use Rattle.std.proofs.lemmas.Result.{on_ok_weaker}
use Rattle.machine_read.specs.NestedMeta.{NestedMeta}
use Rattle.error_fault.specs.declared.fault.Fault.{Fault}
use Rattle.machine_read.specs.Made.{named_type}
use Rattle.machine_value.specs.declared.value.Value.{Value as Datum}
use Rattle.machine_read.specs.State.{Slot, Several, State, put, slot_at}
use Rattle.machine_state.specs.declared.slot.Slot.{Slot as Held}
use Rattle.machine_state.specs.Seen.{Change, slot_of}

some_is : {A : Type 0} (x y : A) → Some x ≡ Some y → x ≡ y
some_is x y e = cc

none_is : {A B : Type 0} (x : A) → None ≡ Some x → B
none_is x e = cc

pub slot-there : (slots : List Held) (place : ℕ) (it : Held) → slice_get slots place ≡ Some it → slot_of it ≡ slot_at (map slot_of slots) place
slot-there [] place it is = none_is it is
slot-there (first ∷ slots) zero it is = ap slot_of (sym (some_is first it is))
slot-there (first ∷ slots) (suc place) it is = slot-there slots place it is

pub slot-past : (slots : List Held) (place : ℕ) → length slots ≤ place → slot_at (map slot_of slots) place ≡ Several (named_type []) []
slot-past [] place past = refl
slot-past (first ∷ slots) zero past = let bad : ⊥ = omega (arith, past) in absurd bad
slot-past (first ∷ slots) (suc place) past = slot-past slots place (omega (arith, past))

set-set : {A : Type 0} (xs : List A) (place : ℕ) (x y : A) → set (set xs place x) place y ≡ set xs place y
set-set [] place x y = refl
set-set (first ∷ xs) zero x y = refl
set-set (first ∷ xs) (suc place) x y = ap (λ more. first ∷ more) (set-set xs place x y)

pub set-past : {A : Type 0} (xs : List A) (place : ℕ) (x : A) → length xs ≤ place → set xs place x ≡ xs
set-past [] place x past = refl
set-past (first ∷ xs) zero x past = let bad : ⊥ = omega (arith, past) in absurd bad
set-past (first ∷ xs) (suc place) x past = ap (λ more. first ∷ more) (set-past xs place x (omega (arith, past)))

-- what is put at a place stands there, whatever stood there before
pub put-again : (slots others : List Held) (faults : List Fault) (kept : List NestedMeta) (whole : Datum) (place : ℕ) (empty : Held) (change : Change) → others ≡ set slots place empty
    → put place change (record { slots = map slot_of others; faults = faults; kept = kept; whole = whole }) ≡ put place change (record { slots = map slot_of slots; faults = faults; kept = kept; whole = whole })
put-again slots others faults kept whole place empty change is =
    let with = λ (xs : List Slot). let s : State = record { slots = xs; faults = faults; kept = kept; whole = whole } in put place change s in
    ap (λ xs. with (map slot_of xs)) is
    ∙ ap with (map-set slot_of slots place empty)
    ∙ ap (λ (xs : List Slot). let s : State = record { slots = xs; faults = faults ++ change.1; kept = kept; whole = whole } in s) (set-set (map slot_of slots) place (slot_of empty) change.0)

-- a slot that is put, and more faults
pub put_is : {E : Type 0} (result : Result (Unit {0}) E) (slots : List Slot) (others : List Held) (faults more all : List Fault) (kept : List NestedMeta) (whole : Datum) (place : ℕ) (slot : Slot)
    → map slot_of others ≡ set slots place slot → OnOk result (all ≡ faults ++ more)
    → OnOk result (let s : State = record { slots = map slot_of others; faults = all; kept = kept; whole = whole } in let old : State = record { slots = slots; faults = faults; kept = kept; whole = whole } in s ≡ put place (slot, more) old)
put_is result slots others faults more all kept whole place slot is added =
    on_ok_weaker result (λ e. ap₂ (λ (xs : List Slot) (ys : List Fault). let s : State = record { slots = xs; faults = ys; kept = kept; whole = whole } in s) is e) added
