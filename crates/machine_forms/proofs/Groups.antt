-- Units by the numbers of their declarations.
use Rattle.std.proofs.Common.{◌≡◌, ◌≢◌, ◌∙◌, ⊎_elim, ℕ, zero, suc, ◌<◌, ◌+◌, Bool, true, false, cond, eqb, List, [], ◌∷◌, ◌++◌, length, get_or, set, map, take, drop, filter, replicate, slice_get, Some, refl, ap, subst, sym, append-nil, append_assoc, add-one, arith}
use Rattle.std.specs.Borrow.{Bor}
use Rattle.std.proofs.lemmas.Bool.Decides.{eqb_tells}
use Rattle.std.proofs.lemmas.List.{get_or_default, get_or-replicate, get_or-set_other, get_or-set_same, length-replicate, length-set, map-append, take_more}
use Rattle.std.proofs.lemmas.List.Elements.{filter-append}
use Rattle.codegen_program.specs.declared.program.«Unit».{«Unit» as Unit'}
use Rattle.node_core.specs.declared.derive.DeriveInput.{DeriveInput}
use Rattle.codegen_program.specs.Traits.{is_from_meta}
use Rattle.std.specs.List.{list_any}
use Rattle.machine_forms.specs.Units.{Adds, AreGroups, flags_from, group_at, is_of, units_of}

abbrev pub Groups : Type 0
Groups = List (List (Bor Unit'))

abbrev now : Bor Unit' → Unit'
now unit = unit.now

got : {A : Type 0} (items : List A) (at : ℕ) (it other : A) → slice_get items at ≡ Some it → get_or items at other ≡ it
got [] at it other e = absurd (cc)
got (first ∷ items) zero it other e = cc
got (first ∷ items) (suc at) it other e = got items at it other e

-- nothing is held yet
pub groups-none : (count : ℕ) (groups : Groups) → groups ≡ replicate count [] → AreGroups [] count groups
groups-none count groups e = record {
  counted = ap length e ∙ length-replicate count [];
  each = λ number lt. ap (λ (all : Groups). group_at all number) e ∙ ap (map now) (get_or-replicate count number [] [] lt);
}

tested : (number other : ℕ) (unit : Unit') (b : Bool) → unit.decl ≡ number → eqb number other ≡ b → is_of other unit ≡ b
tested number other unit b e f = ap (λ n. eqb n other) e ∙ f

-- a unit is put behind those of its number
pub adds-set : (old : Groups) (number : ℕ) (group : List (Bor Unit')) (unit : Bor Unit') → number < length old → slice_get old number ≡ Some group → unit.now.decl ≡ number
    → Adds old (set (set old number []) number (group ++ unit ∷ [])) unit.now
adds-set old number group unit lt is e = record {
  counted = length-set (set old number []) number (group ++ unit ∷ []) ∙ length-set old number [];
  each = λ other within. ⊎_elim
      (λ q. let same : number ≡ other = q.1 in
      ap (map now) (ap (λ at. get_or (set (set old number []) number (group ++ unit ∷ [])) at []) (sym same) ∙ get_or-set_same (set old number []) number (group ++ unit ∷ []) [] (let e = length-set old number [] in omega (arith, lt, e)))
      ∙ map-append now group (unit ∷ [])
      ∙ ap (λ items. map now items ++ unit.now ∷ []) (sym (got old number group [] is) ∙ ap (λ at. get_or old at []) same)
      ∙ ap (λ b. group_at old other ++ cond b (unit.now ∷ []) []) (sym (tested number other unit.now true e q.0)))
      (λ q. let differs : other ≢ number = λ f. q.1 (sym f) in
      ap (map now) (get_or-set_other (set old number []) number other (group ++ unit ∷ []) [] differs ∙ get_or-set_other old number other [] [] differs)
      ∙ sym (append-nil (group_at old other))
      ∙ ap (λ b. group_at old other ++ cond b (unit.now ∷ []) []) (sym (tested number other unit.now false e q.0)))
      (eqb_tells number other);
}

-- the same, where it is done in steps: the group is taken out, and put back with the unit
pub adds-by : (old mid new : Groups) (number : ℕ) (empty group more : List (Bor Unit')) (unit : Bor Unit') → number < length old → slice_get old number ≡ Some group → unit.now.decl ≡ number
    → empty ≡ [] → mid ≡ set old number empty → more ≡ group ++ unit ∷ [] → new ≡ set mid number more → Adds old new unit.now
adds-by old mid new number empty group more unit lt is e none taken pushed put =
    let whole = put ∙ ap (λ it. set mid number it) pushed ∙ ap (λ it. set it number (group ++ unit ∷ [])) (taken ∙ ap (λ it. set old number it) none) in
    let P : Groups → Type 0 = λ it. Adds old it unit.now in
    subst P (sym whole) (adds-set old number group unit lt is e)

-- one more unit
pub groups-more : (units : List Unit') (count at : ℕ) (old new : Groups) (unit : Unit') → AreGroups (take at units) count old → Adds old new unit → at < length units → get_or units at unit ≡ unit
    → AreGroups (take (at + 1) units) count new
groups-more units count at old new unit held adds lt is = record {
  counted = adds.counted ∙ held.counted;
  each = λ number within.
      let inside : number < length old = let e = held.counted in omega (arith, within, e) in
      adds.each number inside
      ∙ ap (λ group. group ++ cond (is_of number unit) (unit ∷ []) []) (held.each number within)
      ∙ sym (filter-append (is_of number) (take at units) (unit ∷ []))
      ∙ ap (filter (is_of number)) (ap (λ it. take at units ++ it ∷ []) (sym is) ∙ sym (take_more units at unit lt));
}

-- the units that are held for a number
pub held-for : (units : List Unit') (count : ℕ) (groups : Groups) → AreGroups units count groups → (number : ℕ) → number < count → (group : List (Bor Unit')) → group ≡ get_or groups number group
    → map now group ≡ units_of units number
held-for units count groups held number lt group is =
    let inside : number < length groups = let e = held.counted in omega (arith, lt, e) in
    ap (map now) (is ∙ get_or_default groups number group [] inside) ∙ held.each number lt

some_first : {A : Type 0} (items : List A) (at : ℕ) → at < length items → (it : A) × (drop at items ≡ it ∷ drop (suc at) items)
some_first [] at lt = absurd (omega (arith, lt))
some_first (it ∷ items) zero lt = (it, refl)
some_first (it ∷ items) (suc at) lt = some_first items at (omega (arith, lt))

-- one more flag
pub flags-more : (units : List Unit') (decls : List DeriveInput) (groups : Groups) → AreGroups units (length decls) groups → (number : ℕ) → number < length decls → (group : List (Bor Unit')) → group ≡ get_or groups number group
    → (flags : List Bool) (reads : Bool) → reads ≡ list_any (λ (unit : Unit'). is_from_meta unit.derive) (map now group)
    → flags ++ flags_from units number (drop number decls) ≡ (flags ++ reads ∷ []) ++ flags_from units (number + 1) (drop (number + 1) decls)
flags-more units decls groups held number lt group is flags reads e =
    let first = some_first decls number lt in
    let rest = flags_from units (number + 1) (drop (suc number) decls) in
    ap (λ left. flags ++ flags_from units number left) first.1
    ∙ ap (λ its. flags ++ list_any (λ (unit : Unit'). is_from_meta unit.derive) its ∷ rest) (sym (held-for units (length decls) groups held number lt group is))
    ∙ ap (λ b. flags ++ b ∷ rest) (sym e)
    ∙ sym (append_assoc flags (reads ∷ []) rest)
    ∙ ap (λ n. (flags ++ reads ∷ []) ++ flags_from units (number + 1) (drop n decls)) (sym (add-one number))
