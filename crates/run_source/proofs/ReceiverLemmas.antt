-- The receiver of accepted declarations, and what it makes of an item.
use Rattle.std.proofs.Common.{◌≡◌, ◌∙◌, ◌<◌, ◌+◌, ◌-◌, ◌==◌, ◌&&◌, ◌||◌, ℕ, Bool, true, false, cond, nat_lt, List, [], ◌∷◌, length, map, position, slice_get, All, Option, Some, None, option_and_then, option_map, refl, sym, ap, subst₂, arith, suc}
use Rattle.std.specs.Prelude.{if◌then◌else◌}
use Rattle.std.specs.List.{AllByRecursion, AllZip, find, list_any, position_or_len}
use Rattle.std.proofs.lemmas.Bool.{and_parts, cond-true}
use Rattle.std.proofs.lemmas.Bool.Decides.{Decides-eqb, Decides-ltb, nat_tests}
use Rattle.std.proofs.lemmas.List.{length-map}
use Rattle.std.proofs.lemmas.List.Elements.{All-from_recursion}
use Rattle.std.proofs.lemmas.List.Folds.{find_at}
use Rattle.std.proofs.lemmas.Option.{slice_get_within}
use Rattle.node_core.specs.declared.derive.DeriveInput.{DeriveInput}
use Rattle.codegen_program.specs.declared.program.Derive.{Derive}
use Rattle.codegen_program.specs.declared.program.Derive.TheVariants as derive
use Rattle.codegen_program.specs.declared.program.Program.{Program}
use Rattle.codegen_program.specs.declared.program.«Unit».{«Unit» as Unit'}
use Rattle.codegen_program.specs.Traits.{is_input, same_derive}
use Rattle.law_options.specs.Units.{is_of, is_receiver as is_received}
use Rattle.law_options.specs.Unfitness.{refusals}
use Rattle.machine_execute.specs.Elements.{OnInput, machine_on, unit_on}
use Rattle.machine_execute.specs.Machine.{machine}
use Rattle.law_options.specs.HostSays.{HostSays}
use Rattle.law_options.specs.Values.{Rules}
use Rattle.run_accepted.specs.Attributes.{without_attributes}
use Rattle.run_accepted.specs.Compiled.{IsUnit, IsUnitUnder}
use Rattle.run_accepted.specs.Derives.{derives_of}
use Rattle.run_accepted.specs.Pairs.{Pair, pair, pairs_from, pairs_of}
use Rattle.run_accepted.specs.Unbuilt.{derives_input}
use Rattle.run_accepted.specs.declared.derives.Derived.{Derived}
use Rattle.run_accepted.specs.Accepted.{unfitness}
use Rattle.run_accepted.proofs.FitLemmas.{has_receiver}
use Rattle.run_accepted.proofs.ListLemmas.{at_place, opposite}
use Rattle.run_accepted.proofs.UnitLemmas.{Stands, all_stand, derive_is, number_is}
use Rattle.run_source.specs.Receiver.{is_receiver, receiver}
use Rattle.law_options.specs.Texts.{text_meaning}
use Rattle.law_options.proofs.Owns.{all-append}
use Rattle.law_options.proofs.Once.{once_named}
use Rattle.law_options.proofs.Programs.{program_is_meant}
use Rattle.run_source.specs.Claims.{AcceptedIsMeant}

-- items of lists

found_by : {X : Type 0} (test : X → Bool) (x : X) (passes any : Bool) (later : Option X) → test x ≡ passes → (passes || any) ≡ true
    → (any ≡ true → (y : X) × (later ≡ Some y) × (test y ≡ true)) → (y : X) × (cond passes (Some x) later ≡ Some y) × (test y ≡ true)
found_by test x true any later is some rest = (x, refl, is)
found_by test x false any later is some rest = rest some

-- where an item passes, one is found
found : {X : Type 0} (test : X → Bool) (xs : List X) → list_any test xs ≡ true → (x : X) × (find test xs ≡ Some x) × (test x ≡ true)
found test [] some = absurd cc
found test (x ∷ xs) some = found_by test x (test x) (list_any test xs) (find test xs) refl some (λ later. found test xs later)

-- where an item passes, the first that does stands at a place
pub first_passes : {X : Type 0} (test : X → Bool) (xs : List X) → list_any test xs ≡ true
    → (place : ℕ) × (x : X) × (position test xs ≡ Some place) × (slice_get xs place ≡ Some x) × (test x ≡ true)
first_passes test xs some =
    let place = position_or_len test xs in
    let it = found test xs some in
    let at : slice_get xs place ≡ Some it.0 = sym (find_at test xs) ∙ it.1 in
    let within : nat_lt place (length xs) ≡ true = (Decides-ltb place (length xs)).1 (slice_get_within xs place it.0 at) in
    (place, it.0, cond-true (nat_lt place (length xs)) (Some place) None within, at, it.2)

-- by tests that agree the same items pass
same_any : {X : Type 0} (test other : X → Bool) (xs : List X) → ((x : X) → test x ≡ other x) → list_any test xs ≡ list_any other xs
same_any test other xs same = λ i. list_any (λ x. same x i) xs

-- the receiver

-- the last of so many numbers
is_last : (number count : ℕ) → 0 < count → (number == count - 1) ≡ (number + 1 == count)
is_last number count some = grind (arith, nat_tests)

-- a program that fits has a first unit by which items are read as its last declaration
first_receiver : (host : HostSays) (program : Program) → unfitness host program ≡ None
    → (number : ℕ) × (unit : Unit') × (receiver program ≡ Some number) × (slice_get program.units number ≡ Some unit) × (is_receiver (length program.decls) unit ≡ true)
first_receiver host program none =
    let count = length program.decls in
    let has = and_parts (nat_lt 0 count) (is_received program.units (count - 1)) (has_receiver (refusals host program) none) in
    let some : 0 < count = (Decides-ltb 0 count).0 has.0 in
    first_passes (is_receiver count) program.units
    (sym (same_any (λ unit. is_of (count - 1) unit && is_input unit.derive) (is_receiver count) program.units
    (λ unit. ap (λ last. last && is_input unit.derive) (is_last unit.decl count some)))
    ∙ has.1)

-- ---- derives

or-second : (one other : Bool) → other ≡ true → (one || other) ≡ true
or-second true other is = refl
or-second false other is = is

-- the declaration of a pair that reads items of a text derives `FromDeriveInput`
abbrev pub Derives : Pair → Type 0
Derives it = is_input it.derive ≡ true → derives_input (derives_of it.decl.attrs) ≡ true

each_derives : (number : ℕ) (decl : DeriveInput) (derives : List Derived) → (derives_input derives ≡ true → derives_input (derives_of decl.attrs) ≡ true)
    → AllByRecursion Derives (map (λ (it : Derived). pair number decl it.derive) derives)
each_derives number decl [] within = tt
each_derives number decl (it ∷ derives) within = (
  λ reads. within (ap (λ one. one || derives_input derives) reads),
  each_derives number decl derives (λ later. within (or-second (is_input it.derive) (derives_input derives) later)),
)

derive_from : (number : ℕ) (decls : List DeriveInput) → AllByRecursion Derives (pairs_from number decls)
derive_from number [] = tt
derive_from number (decl ∷ decls) =
    all-append Derives (pairs_of number decl) (pairs_from (suc number) decls) (each_derives number decl (derives_of decl.attrs) (λ is. is)) (derive_from (suc number) decls)

pub all_derive : (decls : List DeriveInput) → All Derives (pairs_from 0 decls)
all_derive decls = All-from_recursion Derives (pairs_from 0 decls) (derive_from 0 decls)

-- a unit is made of the declaration of its number
made_of : (rules : Rules) (decls : List DeriveInput) (units : List Unit') (place : ℕ) (unit : Unit') → AllZip (IsUnit rules) (pairs_from 0 decls) units
    → slice_get units place ≡ Some unit → is_input unit.derive ≡ true
    → (decl : DeriveInput) × (slice_get decls unit.decl ≡ Some decl) × (derives_input (derives_of decl.attrs) ≡ true)
    × IsUnit rules (pair unit.decl decl derive.FromDeriveInput) unit
made_of rules decls units place unit zip at reads =
    let (it, at_pair, made) = opposite (IsUnit rules) (pairs_from 0 decls) units place unit zip at in
    let same = number_is rules it.number it.decl it.derive unit made in
    let input : it.derive ≡ derive.FromDeriveInput = derive_is rules it.number it.decl it.derive unit made reads in
    let derives : Derives it = at_place Derives (pairs_from 0 decls) place it (all_derive decls) at_pair in
    let P : ℕ → Derive → Type 0 = λ number under. IsUnitUnder rules number it.decl under unit in (
      it.decl,
      ap (slice_get decls) same ∙ at_place (Stands decls) (pairs_from 0 decls) place it (all_stand decls) at_pair,
      derives (ap is_input input),
      subst₂ P (sym same) input made,
    )

-- what reads items of a text is of that derive
input_same : (it : Derive) → is_input it ≡ true → same_derive it derive.FromDeriveInput ≡ true
input_same derive.FromDeriveInput reads = refl
input_same derive.FromMeta reads = absurd cc
input_same derive.FromAttributes reads = absurd cc
input_same derive.FromField reads = absurd cc
input_same derive.FromTypeParam reads = absurd cc
input_same derive.FromVariant reads = absurd cc

pub accepted_is_meant : AcceptedIsMeant
accepted_is_meant host rules decls program built is =
    let (number, unit, first, at, passes) = first_receiver host program is.fits in
    let parts = and_parts (unit.decl + 1 == length program.decls) (is_input unit.derive) passes in
    let (last, stands, derives, made) = made_of rules decls program.units number unit is.sound.compiled.units at parts.1 in
    let count : length program.decls ≡ length decls = ap length is.sound.compiled.bare ∙ length-map decls without_attributes in
    let behind : unit.decl + 1 ≡ length program.decls = (Decides-eqb (unit.decl + 1) (length program.decls)).0 parts.0 in
    let end : unit.decl ≡ length decls - 1 = omega arith in
    let is_end : slice_get decls (length decls - 1) ≡ Some last = ap (slice_get decls) (sym end) ∙ stands in
    let meaning = text_meaning host rules decls (length decls - 1) last in
    let means : (subject : DeriveInput) → machine_on host program number (OnInput subject) ≡ Some (meaning subject) =
    λ subject.
    ap (option_and_then (λ unit. unit_on host program unit (OnInput subject))) at
    ∙ ap (λ b. if b then machine host program unit subject else None) (input_same unit.derive parts.1)
    ∙ program_is_meant host rules decls program unit.decl last unit subject is.sound.compiled is.sound.options is.sound.supported built stands
    (once_named decls is.sound.single built unit.decl last stands derives) derives made
    ∙ ap (λ number. Some (text_meaning host rules decls number last subject)) end in (
      record { number = number; receiver = first; outcomes = λ subject. (meaning subject, means subject) },
      λ subject.
          ap (option_and_then (λ number. machine_on host program number (OnInput subject))) first
          ∙ means subject
          ∙ sym (ap (option_map (λ last. text_meaning host rules decls (length decls - 1) last subject)) is_end),
    )
