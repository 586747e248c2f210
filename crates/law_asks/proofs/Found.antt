-- Where nothing stands against a program, nothing stands against what a unit of its asks.
use Rattle.std.proofs.Common.{◌≡◌, ◌∙◌, ℕ, zero, suc, ◌+◌, Bool, true, false, cond, ◌&&◌, not, List, [], ◌∷◌, ◌++◌, filter, flat_map, slice_get, Some, All, Contains, refl, ap, sym, subst, arith, eq-eqb}
use Rattle.std.specs.List.{list_all, list_any}
use Rattle.std.proofs.lemmas.Bool.{and_parts, false≢true}
use Rattle.std.proofs.lemmas.List.Elements.{All-cons, All-contains, All-nil, Contains-append_left, Contains-append_right}
use Rattle.std.proofs.lemmas.List.Folds.{list_any_at}
use Rattle.std.proofs.lemmas.Option.{none-some, same_Some}
use Rattle.tok_types.specs.declared.span.Span.{Span}
use Rattle.node_span.specs.Spanned.{type_span}
use Rattle.node_core.specs.declared.data.Field.{Field}
use Rattle.node_core.specs.declared.data.Fields.{Fields}
use Rattle.node_core.specs.declared.data.Fields.TheVariants as fields
use Rattle.node_core.specs.declared.data.«Data».{«Data»}
use Rattle.node_core.specs.declared.data.«Data».TheVariants as body
use Rattle.node_core.specs.declared.derive.DeriveInput.{DeriveInput}
use Rattle.codegen_program.specs.declared.init.DefaultSource.TheVariants as sources
use Rattle.codegen_program.specs.declared.program.Derive.{Derive}
use Rattle.codegen_program.specs.declared.program.Program.{Program}
use Rattle.codegen_program.specs.declared.program.«Unit».{«Unit» as Unit'}
use Rattle.node_core.specs.Bodies.{field_list}
use Rattle.law_fits.specs.HostSays.{HostSays}
use Rattle.machine_forms.specs.Asks.{Ask, Whole, is_whole_default, slot_asks, unit_asks}
use Rattle.machine_forms.specs.Places.{places_from, refused_if, refused_unless}
use Rattle.machine_forms.specs.Units.{asks_of, is_of, units_of}
use Rattle.law_fits.specs.Callables.{decl_type, lacks_ident, unknown_callables, unknown_callables_in, unoffered_ask, unoffered_unit}
use Rattle.law_fits.specs.FieldAsks.{FieldAsks, asks_by, field_asks, readings}
use Rattle.law_fits.specs.Fields.{slot_fields}
use Rattle.law_fits.specs.Fits.{has_default}
use Rattle.law_fits.specs.Members.{members_at}
use Rattle.law_fits.specs.Parts.{parts_asked}
use Rattle.law_fits.specs.Types.{fits_asks, fits_member, fits_unit, lacks_default, unfit_ask, unfit_field, unfit_fields, unfit_members, unknown_types, unknown_types_in}
use Rattle.law_fits.proofs.Clean.{nil_left, nil_right, not_nil}
use Rattle.law_fits.specs.Sound.{named_fields, named_of}
use Rattle.machine_fields.proofs.Plain.{members_at-plain, slot_fields-plain}
use Rattle.machine_fields.specs.declared.members.MemberAt.TheVariants as member_at
use Rattle.law_asks.proofs.Units.{contains-head, contains-map, contains-tail}

-- ---- places of which there are none

module _ {A : Type 0} where
  pub unless_none : (test : Bool) (place : A) → refused_unless test place ≡ [] → test ≡ true
  unless_none true place none = refl
  unless_none false place none = absurd (not_nil place [] none)

  pub if_none : (test : Bool) (place : A) → refused_if test place ≡ [] → test ≡ false
  if_none true place none = absurd (not_nil place [] none)
  if_none false place none = refl

module _ {A B : Type 0} where
  -- where things that have numbers give no places, none of them gives any
  pub places_none : (places_of : ℕ → A → List B) (number : ℕ) (things : List A) (at : ℕ) (thing : A)
      → places_from places_of number things ≡ [] → slice_get things at ≡ Some thing → places_of (number + at) thing ≡ []
  places_none places_of number [] at thing none is = absurd (none-some thing is)
  places_none places_of number (first ∷ things) zero thing none is =
      let same : number + zero ≡ number = omega arith in
      ap (λ n. places_of n thing) same
      ∙ ap (places_of number) (sym (same_Some first thing is))
      ∙ nil_left (places_of number first) (places_from places_of (number + 1) things) none
  places_none places_of number (first ∷ things) (suc at) thing none is =
      let same : number + suc at ≡ (number + 1) + at = omega arith in
      ap (λ n. places_of n thing) same
      ∙ places_none places_of (number + 1) things at thing (nil_right (places_of number first) (places_from places_of (number + 1) things) none) is

  pub each_none : (places_of : A → List B) (things : List A) → flat_map places_of things ≡ [] → All (λ thing. places_of thing ≡ []) things
  each_none places_of [] none = All-nil (λ thing. places_of thing ≡ [])
  each_none places_of (first ∷ things) none =
      All-cons (λ thing. places_of thing ≡ []) first things
      (nil_left (places_of first) (flat_map places_of things) none)
      (each_none places_of things (nil_right (places_of first) (flat_map places_of things) none))

-- ---- elements

module _ {A : Type 0} (test : A → Bool) where
  first_kept : (b : Bool) (first : A) (kept : List A) → b ≡ true → Contains (cond b (first ∷ kept) kept) first
  first_kept true first kept e = contains-head first kept
  first_kept false first kept e = absurd (false≢true e)

  later_kept : (b : Bool) (first : A) (kept : List A) (it : A) → Contains kept it → Contains (cond b (first ∷ kept) kept) it
  later_kept true first kept it among = contains-tail first kept it among
  later_kept false first kept it among = among

  -- what passes is kept
  pub contains-filter : (items : List A) (it : A) → Contains items it → test it ≡ true → Contains (filter test items) it
  contains-filter [] it (at, lt, is) e = absurd (omega (arith, lt))
  contains-filter (first ∷ items) it (zero, lt, is) e =
      subst (λ one. Contains (filter test (first ∷ items)) one) is (first_kept (test first) first (filter test items) (ap test is ∙ e))
  contains-filter (first ∷ items) it (suc at, lt, is) e =
      later_kept (test first) first (filter test items) it (contains-filter items it (at, omega (arith, lt), is) e)

  pub every : (items : List A) → list_all test items ≡ true → All (λ it. test it ≡ true) items
  every [] e = All-nil (λ it. test it ≡ true)
  every (first ∷ items) e =
      let both = and_parts (test first) (list_all test items) e in
      All-cons (λ it. test it ≡ true) first items both.0 (every items both.1)

  -- one that passes
  pub some_passes : (items : List A) (it : A) → Contains items it → test it ≡ true → list_any test items ≡ true
  some_passes items it (at, lt, is) e = list_any_at test items at it lt (ap test is ∙ e)

-- ---- the units of one declaration

among_asks : (units : List Unit') (unit : Unit') (ask : Ask) → Contains units unit → Contains (unit_asks unit) ask → Contains (asks_of units) ask
among_asks [] unit ask (at, lt, is) among = absurd (omega (arith, lt))
among_asks (first ∷ units) unit ask (zero, lt, is) among =
    Contains-append_left (unit_asks first) (asks_of units) ask (subst (λ it. Contains (unit_asks it) ask) (sym is) among)
among_asks (first ∷ units) unit ask (suc at, lt, is) among =
    Contains-append_right (unit_asks first) (asks_of units) ask (among_asks units unit ask (at, omega (arith, lt), is) among)

among_readings : (it : «Data») (units : List Unit') (unit : Unit') → Contains units unit → Contains (readings it units) (asks_by it unit)
among_readings it [] unit (at, lt, is) = absurd (omega (arith, lt))
among_readings it (first ∷ units) unit among = contains-map (asks_by it) (first ∷ units) unit among

-- ---- the fields of a struct

named_are : (it : Fields) (named : List Field) → named_of it ≡ Some named → field_list it ≡ named
named_are (fields.Named it) named is = same_Some it.named named is
named_are (fields.Unnamed it) named is = absurd (none-some named is)
named_are fields.Unit named is = absurd (none-some named is)

-- each has a slot where no part of an element is asked
fields_are : (asks : List Ask) → parts_asked asks ≡ [] → (it : «Data») (named : List Field) → named_fields it ≡ Some named → slot_fields asks it ≡ named
fields_are asks plain (body.Struct it) named is = slot_fields-plain asks it plain ∙ named_are it.fields named is
fields_are asks plain (body.Enum it) named is = absurd (none-some named is)
fields_are asks plain (body.Union it) named is = absurd (none-some named is)

module _ (host : HostSays) (program : Program) (number : ℕ) where
  fields_none : (asks : List FieldAsks) (it : «Data») (named : List Field) → named_fields it ≡ Some named → unfit_members host program number asks it ≡ []
      → unfit_fields host program number asks 0 named ≡ []
  fields_none asks (body.Struct it) named is none = subst (λ its. unfit_fields host program number asks 0 its ≡ []) (named_are it.fields named is) none
  fields_none asks (body.Enum it) named is none = absurd (none-some named is)
  fields_none asks (body.Union it) named is none = absurd (none-some named is)

  -- the fields of a struct have the slots of their numbers
  at_slot : (derive : Derive) (asks : List Ask) → parts_asked asks ≡ [] → (it : «Data») (named : List Field) → named_fields it ≡ Some named
      → (slot : ℕ) (field : Field) → slice_get named slot ≡ Some field
      → fits_unit host program number 0 slot field.ty (field_asks derive it asks) ≡ true → fits_asks host program number slot field.ty (slot_asks asks) ≡ true
  at_slot derive asks plain (body.Struct it) named is slot field found fit =
      let same : 0 + slot ≡ slot = omega arith in
      let there : slice_get (members_at derive (parts_asked asks) 0 (field_list it.fields)) slot ≡ Some (member_at.Slot slot) =
      ap (λ parts. slice_get (members_at derive parts 0 (field_list it.fields)) slot) plain
      ∙ members_at-plain derive 0 (field_list it.fields) slot field (ap (λ fields. slice_get fields slot) (named_are it.fields named is) ∙ found)
      ∙ ap (λ n. Some (member_at.Slot n)) same in
      subst (λ member. fits_member host program number field.ty (slot_asks asks) member ≡ true) there fit
  at_slot derive asks plain (body.Enum it) named is slot field found fit = absurd (none-some named is)
  at_slot derive asks plain (body.Union it) named is slot field found fit = absurd (none-some named is)

has_by : (asked has : Bool) → asked ≡ true → (asked && not has) ≡ false → has ≡ true
has_by true true e none = refl
has_by true false e none = sym none
has_by false has e none = absurd (false≢true e)

-- ---- what is asked is there

module _ (host : HostSays) (program : Program) (number : ℕ) (unit : Unit') (declared : DeriveInput) (named : List Field)
    (held : Contains program.units unit) (numbered : unit.decl ≡ number) (found : slice_get program.decls number ≡ Some declared)
    (is_struct : named_fields declared.body ≡ Some named) (plain : parts_asked (unit_asks unit) ≡ []) where
  abbrev mine : List Unit'
  mine = units_of program.units number

  is_mine : Contains mine unit
  is_mine = contains-filter (is_of number) program.units unit held (eq-eqb unit.decl number numbered)

  module _ (types : unknown_types host program ≡ []) where
    types_none : unknown_types_in host program mine number declared ≡ []
    types_none =
        let same : 0 + number ≡ number = omega arith in
        subst (λ n. unknown_types_in host program (units_of program.units n) n declared ≡ []) same
        (places_none (λ number decl. unknown_types_in host program (units_of program.units number) number decl) 0 program.decls number declared types found)

    abbrev default_place : List Span
    default_place = refused_if (lacks_default host program declared (asks_of mine)) declared.ident.span

    abbrev asked : List FieldAsks
    asked = readings declared.body mine

    abbrev member_places : List Span
    member_places = unfit_members host program number asked declared.body

    abbrev ask_places : List Span
    ask_places = flat_map (unfit_ask host program number) (asks_of mine)

    pub fitting : (ask : Ask) → Contains (unit_asks unit) ask → unfit_ask host program number ask ≡ []
    fitting ask among =
        All-contains (λ ask. unfit_ask host program number ask ≡ []) (asks_of mine) ask
        (each_none (unfit_ask host program number) (asks_of mine) (nil_right (default_place ++ member_places) ask_places types_none))
        (among_asks mine unit ask is_mine among)

    pub defaulted : Contains (unit_asks unit) (Whole sources.Trait) → has_default host program (decl_type declared) ≡ true
    defaulted among =
        has_by (list_any is_whole_default (asks_of mine)) (has_default host program (decl_type declared))
        (some_passes is_whole_default (asks_of mine) (Whole sources.Trait) (among_asks mine unit (Whole sources.Trait) is_mine among) refl)
        (if_none (lacks_default host program declared (asks_of mine)) declared.ident.span
        (nil_left default_place member_places (nil_left (default_place ++ member_places) ask_places types_none)))

    slot_none : (slot : ℕ) (field : Field) → slice_get named slot ≡ Some field → unfit_field host program number asked 0 slot field ≡ []
    slot_none slot field is =
        let same : 0 + slot ≡ slot = omega arith in
        subst (λ n. unfit_field host program number asked 0 n field ≡ []) same
        (places_none (unfit_field host program number asked 0) 0 named slot field
        (fields_none host program number asked declared.body named is_struct
        (nil_right default_place member_places (nil_left (default_place ++ member_places) ask_places types_none)))
        is)

    pub fits : (slot : ℕ) (field : Field) → slice_get named slot ≡ Some field → fits_asks host program number slot field.ty (slot_asks (unit_asks unit)) ≡ true
    fits slot field is =
        let fits_here = fits_unit host program number 0 slot field.ty in
        at_slot host program number unit.derive (unit_asks unit) plain declared.body named is_struct slot field is
        (All-contains (λ asks. fits_here asks ≡ true) asked (asks_by declared.body unit)
        (every fits_here asked (unless_none (list_all fits_here asked) (type_span field.ty) (slot_none slot field is)))
        (among_readings declared.body mine unit is_mine))

  pub offered : unknown_callables host program ≡ [] → (ask : Ask) → Contains (unit_asks unit) ask
      → unoffered_ask host program unit.derive (decl_type declared) declared.body named ask ≡ []
  offered callables ask among =
      let same : 0 + number ≡ number = omega arith in
      let none : unknown_callables_in host program mine declared ≡ [] =
      subst (λ n. unknown_callables_in host program (units_of program.units n) declared ≡ []) same
      (places_none (λ number decl. unknown_callables_in host program (units_of program.units number) decl) 0 program.decls number declared callables found) in
      let asks = unit_asks unit in
      let own : unoffered_unit host program declared unit ≡ [] =
      All-contains (λ unit. unoffered_unit host program declared unit ≡ []) mine unit
      (each_none (unoffered_unit host program declared) mine
      (nil_right (refused_if (lacks_ident host program declared (asks_of mine)) declared.ident.span) (flat_map (unoffered_unit host program declared) mine) none))
      is_mine in
      let unoffered = λ (its : List Field) (ask : Ask). unoffered_ask host program unit.derive (decl_type declared) declared.body its ask in
      subst (λ its. unoffered its ask ≡ []) (fields_are asks plain declared.body named is_struct)
      (All-contains (λ ask. unoffered (slot_fields asks declared.body) ask ≡ []) asks ask (each_none (unoffered (slot_fields asks declared.body)) asks own) among)
