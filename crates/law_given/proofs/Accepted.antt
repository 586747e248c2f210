-- The program of accepted declarations is one that options give: none of its functions has a generated name.
use Rattle.std.proofs.Common.{◌≡◌, ◌∙◌, ◌+◌, ℕ, zero, suc, Bool, true, false, cond, List, [], ◌∷◌, ◌++◌, flat_map, filter, get_or, slice_get, Some, option_map, All, refl, sym, ap, ap₂, subst, arith, true≢false}
use Rattle.std.specs.List.{AllByRecursion}
use Rattle.std.proofs.lemmas.Bool.Decides.{Decides-eqb}
use Rattle.std.proofs.lemmas.List.Concat.{flat_map-append}
use Rattle.std.proofs.lemmas.Option.{none-some, same_Some, slice_get-get_or, slice_get-map}
use mathlib.Core.List.{append-eq-nil_iff}
use Rattle.tok_types.specs.declared.span.Span.{Span}
use Rattle.node_core.specs.declared.derive.DeriveInput.{DeriveInput}
use Rattle.codegen_program.specs.declared.program.Program.{Program}
use Rattle.codegen_program.specs.declared.program.«Unit».{«Unit» as Unit'}
use Rattle.machine_forms.specs.Asks.{unit_asks}
use Rattle.machine_forms.specs.Forms.{generated_ask, generated_members, unsupported, unsupported_in}
use Rattle.machine_forms.specs.Places.{earliest, earliest_of, places_from}
use Rattle.machine_forms.specs.Units.{asks_of, is_of, units_of}
use Rattle.codegen_core.specs.Forms.{form_if, is_generic}
use Rattle.codegen_core.specs.declared.form.Unsupported.{Unsupported}
use Rattle.codegen_core.specs.declared.form.Form.TheVariants as form
use Rattle.law_options.specs.HostSays.{HostSays}
use Rattle.law_options.specs.Unfitness.{refusals}
use Rattle.law_options.specs.Values.{Rules}
use Rattle.run_accepted.specs.Accepted.{IsAccepted}
use Rattle.run_accepted.specs.Attributes.{without_attributes}
use Rattle.run_accepted.specs.Compiled.{IsUnit}
use Rattle.run_accepted.specs.Pairs.{pairs_from}
use Rattle.run_accepted.proofs.FitLemmas.{no_rows}
use Rattle.run_accepted.proofs.ListLemmas.{at_place, opposite}
use Rattle.run_accepted.proofs.PlaceLemmas.{none_first}
use Rattle.run_accepted.proofs.UnitLemmas.{Stands, all_stand, number_is}
use Rattle.law_given.specs.Claims.{AcceptedIsGiven}
use Rattle.law_given.specs.Given.{NamesNoGenerated}
use Rattle.law_given.proofs.Compiled.{compiled_is_given}

-- ---- lists

-- where things have no places, the thing that stands at a number has none
no_places : {A B : Type 0} (places_of : ℕ → A → List B) (at : ℕ) (things : List A) (place : ℕ) (thing : A) → places_from places_of at things ≡ []
    → slice_get things place ≡ Some thing → places_of (at + place) thing ≡ []
no_places places_of at [] place thing none stands = absurd (none-some thing stands)
no_places places_of at (first ∷ things) zero thing none stands =
    let here : at + zero ≡ at = omega arith in
    ap₂ places_of here (sym (same_Some first thing stands))
    ∙ ((append-eq-nil_iff {p = places_of at first} {q = places_from places_of (at + 1) things}).0 none).0
no_places places_of at (first ∷ things) (suc place) thing none stands =
    let later = ((append-eq-nil_iff {p = places_of at first} {q = places_from places_of (at + 1) things}).0 none).1 in
    let same : at + suc place ≡ at + 1 + place = omega arith in
    ap (λ number. places_of number thing) same ∙ no_places places_of (at + 1) things place thing later stands

module _ {A : Type 0} (P : A → Type 0) (test : A → Bool) where
  first_of : (first : A) (rest : List A) (passes : Bool) → passes ≡ true → AllByRecursion P (cond passes (first ∷ rest) rest) → P first
  first_of first rest true is are = are.0
  first_of first rest false is are = absurd (true≢false (sym is))

  rest_of : (first : A) (rest : List A) (passes : Bool) → AllByRecursion P (cond passes (first ∷ rest) rest) → AllByRecursion P rest
  rest_of first rest true are = are.1
  rest_of first rest false are = are

  -- what holds of all that pass holds of one at a place
  passes_at : (xs : List A) (place : ℕ) (x : A) → AllByRecursion P (filter test xs) → slice_get xs place ≡ Some x → test x ≡ true → P x
  passes_at [] place x are stands passes = absurd (none-some x stands)
  passes_at (first ∷ xs) zero x are stands passes =
      let same = same_Some first x stands in
      subst P same (first_of first (filter test xs) (test first) (ap test same ∙ passes) are)
  passes_at (first ∷ xs) (suc place) x are stands passes =
      passes_at xs place x (rest_of first (filter test xs) (test first) are) stands passes

-- ---- units

-- where nothing that units ask has a generated name, each of them names none
each_plain : (units : List Unit') → flat_map generated_ask (asks_of units) ≡ [] → AllByRecursion NamesNoGenerated units
each_plain [] none = tt
each_plain (unit ∷ units) none =
    let both =
    (append-eq-nil_iff {p = flat_map generated_ask (unit_asks unit)} {q = flat_map generated_ask (asks_of units)}).0
    (sym (flat_map-append generated_ask (unit_asks unit) (asks_of units)) ∙ none) in
    (both.0, each_plain units both.1)

module _ (host : HostSays) (rules : Rules) (decls : List DeriveInput) (program : Program) (is : IsAccepted host rules decls program) where
  none_unsupported : unsupported program ≡ []
  none_unsupported =
      let it = refusals host program in
      let span_of : Unsupported → Span = λ form. form.span in
      none_first span_of (unsupported program)
      (no_rows (earliest it.duplicate_names) (earliest_of span_of it.unsupported) (earliest it.unknown_types) (earliest it.unknown_callables)
      it.has_receiver is.fits).1

  -- the units of a declaration that stands at a number
  plain_at : (number : ℕ) (decl : DeriveInput) → slice_get program.decls number ≡ Some decl
      → AllByRecursion NamesNoGenerated (units_of program.units number)
  plain_at number decl stands =
      let units = units_of program.units number in
      let generics : List Unsupported = form_if (is_generic decl.generics) form.Generics decl.ident in
      let same : number ≡ 0 + number = omega arith in
      let none : unsupported_in units decl ≡ [] =
      ap (λ at. unsupported_in (units_of program.units at) decl) same
      ∙ no_places (λ at it. unsupported_in (units_of program.units at) it) 0 program.decls number decl none_unsupported stands in
      each_plain units ((append-eq-nil_iff {p = generics ++ generated_members decl.body} {q = flat_map generated_ask (asks_of units)}).0 none).1

  all_plain : All NamesNoGenerated program.units
  all_plain k d within =
      let pairs = pairs_from 0 decls in
      let unit = get_or program.units k d in
      let at = slice_get-get_or program.units k d within in
      let (it, it_at, made) = opposite (IsUnit rules) pairs program.units k unit is.sound.compiled.units at in
      let own : unit.decl ≡ it.number = number_is rules it.number it.decl it.derive unit made in
      let stands = at_place (Stands decls) pairs k it (all_stand decls) it_at in
      let here : slice_get program.decls unit.decl ≡ Some (without_attributes it.decl) =
      ap₂ slice_get is.sound.compiled.bare own ∙ slice_get-map without_attributes decls it.number ∙ ap (option_map without_attributes) stands in
      passes_at NamesNoGenerated (is_of unit.decl) program.units k unit (plain_at unit.decl (without_attributes it.decl) here) at
      ((Decides-eqb unit.decl unit.decl).1 refl)

pub accepted_is_given : AcceptedIsGiven
accepted_is_given host rules decls program built few is =
    compiled_is_given rules decls program built few (all_plain host rules decls program is) is.sound.options is.sound.compiled
