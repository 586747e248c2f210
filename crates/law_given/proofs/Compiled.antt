-- What declarations compile to is a program that options give.
use Rattle.std.proofs.Common.{◌≡◌, ◌∙◌, ℕ, suc, List, [], ◌∷◌, map, slice_get, Some, None, option_map, All, get_or, refl, sym, ap, subst, arith}
use Rattle.std.specs.List.{AllByRecursion, AllZip}
use Rattle.std.proofs.lemmas.List.{get_or_default}
use Rattle.std.proofs.lemmas.List.Elements.{All-append, All-from_recursion, All-map, All-nil, recursion_from_All}
use Rattle.std.proofs.lemmas.Option.{slice_get-map}
use Rattle.node_core.specs.declared.derive.DeriveInput.{DeriveInput}
use Rattle.codegen_program.specs.declared.program.«Unit».{«Unit» as Unit'}
use Rattle.law_options.specs.Values.{Rules}
use Rattle.run_accepted.specs.Attributes.{without_attributes}
use Rattle.run_accepted.specs.Compiled.{IsUnit, IsUnitUnder}
use Rattle.run_accepted.specs.Derives.{derives_of}
use Rattle.run_accepted.specs.Pairs.{Pair, faults_under, pair, pairs_from, pairs_of, rejected}
use Rattle.run_accepted.specs.Plain.{IsPlainDecl}
use Rattle.run_accepted.proofs.ListLemmas.{at_place}
use Rattle.run_accepted.proofs.UnitLemmas.{Stands, all_stand, number_is, under_is}
use Rattle.law_options.proofs.Clear.{none_with}
use Rattle.law_given.specs.Claims.{CompiledIsGiven}
use Rattle.law_given.specs.Given.{HasFewFields, IsBare, IsGivenUnit, NamesDerive, NamesNoGenerated}
use Rattle.law_given.proofs.Bare.{is_bare}
use Rattle.law_given.proofs.Order.{Rises, rises-map, rises-sorted, rises-zip, rises_from}

-- ---- pairs

-- the numbers of pairs don't fall
numbers_rise : (number : ℕ) (decls : List DeriveInput) → Rises (λ (it : Pair). it.number) number (pairs_from number decls)
numbers_rise number [] = tt
numbers_rise number (decl ∷ decls) =
    rises-map (λ (it : Pair). it.number) (λ it. pair number decl it.derive) number (λ it. refl)
    (derives_of decl.attrs) (pairs_from (suc number) decls)
    (rises_from (λ (it : Pair). it.number) number (suc number) (pairs_from (suc number) decls) (omega arith) (numbers_rise (suc number) decls))

-- the declaration of a pair names its derive
abbrev Names : Pair → Type 0
Names it = NamesDerive it.decl it.derive

all_name : (number : ℕ) (decls : List DeriveInput) → All Names (pairs_from number decls)
all_name number [] = All-nil Names
all_name number (decl ∷ decls) =
    let its = derives_of decl.attrs in
    All-append Names (pairs_of number decl) (pairs_from (suc number) decls)
    (All-map Names (λ it. pair number decl it.derive) its
    (λ k d within. (k, get_or its k d, within, get_or_default its k (get_or its k d) d within, refl)))
    (all_name (suc number) decls)

-- the pair's declaration stands at its number, names its derive, is of forms that a run reads, and has few fields
record IsOf (decls : List DeriveInput) (it : Pair) : Type 0 where
  stands : Stands decls it
  named : Names it
  built : IsPlainDecl it.decl
  few : HasFewFields it.decl

of_all : (decls : List DeriveInput) → All IsPlainDecl decls → All HasFewFields decls → (pairs : List Pair)
    → AllByRecursion (Stands decls) pairs → AllByRecursion Names pairs → AllByRecursion (IsOf decls) pairs
of_all decls built few [] stand name = tt
of_all decls built few (it ∷ pairs) stand name = (
  record {
    stands = stand.0;
    named = name.0;
    built = at_place IsPlainDecl decls it.number it.decl built stand.0;
    few = at_place HasFewFields decls it.number it.decl few stand.0;
  },
  of_all decls built few pairs stand.1 name.1,
)

-- ---- units

module _ (rules : Rules) (decls : List DeriveInput) where
  abbrev bare : List DeriveInput
  bare = map without_attributes decls

  bare_at : (number : ℕ) (decl : DeriveInput) → slice_get decls number ≡ Some decl → slice_get bare number ≡ Some (without_attributes decl)
  bare_at number decl stands = slice_get-map without_attributes decls number ∙ ap (option_map without_attributes) stands

  -- what is made of a pair is given
  given : (it : Pair) (unit : Unit') → IsOf decls it → NamesNoGenerated unit
      → faults_under rules it.decl it.derive ≡ [] → IsUnit rules it unit → IsGivenUnit bare unit
  given it unit is plain none made =
      let number = number_is rules it.number it.decl it.derive unit made in
      let derive = under_is rules it.number it.decl it.derive unit made in
      record {
        written = it.decl;
        rules = rules;
        stands = ap (slice_get bare) number ∙ bare_at it.number it.decl is.stands;
        named = subst (NamesDerive it.decl) (sym derive) is.named;
        built = is.built;
        faultless = ap (faults_under rules it.decl) derive ∙ none;
        compiled =
            subst (λ under. IsUnitUnder rules unit.decl it.decl under unit) (sym derive)
            (subst (λ at. IsUnitUnder rules at it.decl it.derive unit) (sym number) made);
        plain = plain;
        few = is.few;
      }

  all_given : (pairs : List Pair) (units : List Unit') → AllZip (IsUnit rules) pairs units → AllByRecursion (IsOf decls) pairs
      → AllByRecursion NamesNoGenerated units → rejected rules pairs ≡ None → AllByRecursion (IsGivenUnit bare) units
  all_given [] [] made are plain none = tt
  all_given [] (unit ∷ units) made are plain none = absurd made
  all_given (it ∷ pairs) [] made are plain none = absurd made
  all_given (it ∷ pairs) (unit ∷ units) made are plain none =
      let both = none_with it.decl it.derive (faults_under rules it.decl it.derive) (rejected rules pairs) none in
      (given it unit are.0 plain.0 both.0 made.0, all_given pairs units made.1 are.1 plain.1 both.1)

pub compiled_is_given : CompiledIsGiven
compiled_is_given rules decls program built few plain none is =
    let pairs = pairs_from 0 decls in
    let stand = recursion_from_All (Stands decls) pairs (all_stand decls) in
    let name = recursion_from_All Names pairs (all_name 0 decls) in
    let are = of_all decls built few pairs stand name in
    let units = all_given rules decls pairs program.units is.units are (recursion_from_All NamesNoGenerated program.units plain) none in
    record {
      bare = subst (All IsBare) (sym is.bare) (All-map IsBare without_attributes decls (λ k d within. is_bare (get_or decls k d)));
      in_order =
          rises-sorted (λ (unit : Unit'). unit.decl) 0 program.units
          (rises-zip (IsUnit rules) (λ (it : Pair). it.number) (λ (unit : Unit'). unit.decl)
          (λ it unit. number_is rules it.number it.decl it.derive unit) 0 pairs program.units is.units (numbers_rise 0 decls));
      units =
          subst (λ all. All (IsGivenUnit all) program.units) (sym is.bare)
          (All-from_recursion (IsGivenUnit (map without_attributes decls)) program.units units);
    }
