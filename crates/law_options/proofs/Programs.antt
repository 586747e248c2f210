-- The units of a program are those of the declarations that its text means.
use Rattle.std.proofs.Common.{◌≡◌, ◌∙◌, ℕ, ◌+◌, zero, suc, arith, ◌==◌, ◌&&◌, ◌||◌, Bool, true, false, List, [], ◌∷◌, ◌++◌, map, Option, Some, refl, sym, ap, subst}
use Rattle.std.specs.Prelude.{flat_map, option_map, slice_get, if◌then◌else◌}
use Rattle.std.specs.List.{AllByRecursion, AllZip}
use Rattle.std.proofs.lemmas.Option.{none-some, same_Some, slice_get-map}
use Rattle.node_core.specs.declared.derive.DeriveInput.{DeriveInput}
use Rattle.codegen_program.specs.Traits.{is_input, same_derive}
use Rattle.codegen_program.specs.declared.program.Derive.{Derive}
use Rattle.codegen_program.specs.declared.program.Derive.TheVariants as derive
use Rattle.codegen_program.specs.declared.program.«Unit».{«Unit» as Unit'}
use Rattle.codegen_core.specs.Compiled.{compiled_meta}
use Rattle.codegen_core.specs.declared.from_meta_impl.FromMetaImpl.{FromMetaImpl}
use Rattle.run_accepted.specs.Made.{named_type}
use Rattle.machine_steps.specs.Machine.{setting_of, unit_under, unit_type}
use Rattle.law_machine.specs.Receivers.{MetaDecl}
use Rattle.machine_steps.specs.Setting.{Setting}
use Rattle.law_machine.specs.Declarations.{meta_decl}
use Rattle.meaning_core.specs.DeclaredElements.{declared_element_meaning}
use Rattle.run_accepted.specs.Values.{Rules}
use Rattle.run_accepted.specs.Stages.{meta_reader, options_of}
use Rattle.run_accepted.specs.Attributes.{body_without, without_attributes}
use Rattle.run_accepted.specs.Compiled.{IsUnit, IsUnitUnder}
use Rattle.machine_steps.specs.Elements.{OnInput}
use Rattle.machine_steps.specs.Receivers.{declared_variants, receiver_of, variants_of}
use Rattle.options_core.specs.MetaViews.{IsMetaImpl}
use Rattle.run_accepted.specs.Derives.{derives_of}
use Rattle.run_accepted.specs.Forms.{forms_under}
use Rattle.run_accepted.specs.Unbuilt.{IsBuilt, derives_input, input_places}
use Rattle.run_accepted.specs.declared.derives.Derived.{Derived}
use Rattle.run_accepted.proofs.BuiltLemmas.{input_built}
use Rattle.run_accepted.proofs.ListLemmas.{at_place}
use Rattle.run_accepted.specs.Pairs.{Pair, faults_under, pair, pairs_from, pairs_of}
use Rattle.law_machine.specs.Compiles.{AreMetaUnits, IsMetaDecl, IsMetaUnit}
use Rattle.law_machine.specs.ElementDecls.{IsElementUnit}
use Rattle.law_machine.proofs.ElementPrograms.{elements_are_meant}
use Rattle.law_options.specs.Meant.{meant_meta}
use Rattle.law_options.proofs.Clear.{IsFaultless, IsSupported, each_faultless, each_supported}
use Rattle.law_options.proofs.Kept.{meta_options_are}
use Rattle.law_options.proofs.Words.{meta_same}
use Rattle.law_options.specs.Claims.{ProgramIsMeant}
use Rattle.law_options.specs.Texts.{decls_under, input_outer, meta_decls, outer_decls, pair_decls}
use Rattle.law_options.proofs.Elements.{input_elements_are}
use Rattle.law_options.proofs.NoBody.{takes_no_body}
use Rattle.law_options.proofs.Owns.{all-append}

-- the unit of the number that is asked for, or a later one
chosen : (bare : List DeriveInput) (test : Bool) (unit : Unit') (decl : MetaDecl) (units : Option Unit') (decls : Option MetaDecl)
    → IsMetaUnit bare (Some unit) (Some decl) → IsMetaUnit bare units decls
    → IsMetaUnit bare (if test && true then Some unit else units) (if test then Some decl else decls)
chosen bare true unit decl units decls is are = is
chosen bare false unit decl units decls is are = are

-- where a unit reads no metas, a later one is asked for
passed : (bare : List DeriveInput) (test : Bool) (unit : Unit') (units : Option Unit') (decls : Option MetaDecl) → IsMetaUnit bare units decls
    → IsMetaUnit bare (if test && false then Some unit else units) decls
passed bare true unit units decls are = are
passed bare false unit units decls are = are

-- the declaration of the pair stands at its number, without attributes
abbrev StandsBare : List DeriveInput → Pair → Type 0
StandsBare bare it = slice_get bare it.number ≡ Some (without_attributes it.decl)

bare_pairs_of : (bare : List DeriveInput) (number : ℕ) (decl : DeriveInput) (derives : List Derived) → slice_get bare number ≡ Some (without_attributes decl)
    → AllByRecursion (StandsBare bare) (map (λ (it : Derived). pair number decl it.derive) derives)
bare_pairs_of bare number decl [] stands = tt
bare_pairs_of bare number decl (it ∷ derives) stands = (stands, bare_pairs_of bare number decl derives stands)

bare_pairs : (bare : List DeriveInput) (number : ℕ) (decls : List DeriveInput) → ((k : ℕ) → slice_get bare (number + k) ≡ slice_get (map without_attributes decls) k)
    → AllByRecursion (StandsBare bare) (pairs_from number decls)
bare_pairs bare number [] same = tt
bare_pairs bare number (decl ∷ decls) same =
    let here : number ≡ number + zero = omega arith in
    all-append (StandsBare bare) (pairs_of number decl) (pairs_from (suc number) decls)
    (bare_pairs_of bare number decl (derives_of decl.attrs) (ap (slice_get bare) here ∙ same zero))
    (bare_pairs bare (suc number) decls (λ k. let next : suc number + k ≡ number + suc k = omega arith in ap (slice_get bare) next ∙ same (suc k)))

-- the unit reads metas
abbrev under_meta : Unit' → Bool
under_meta unit = same_derive unit.derive derive.FromMeta

module _ (rules : Rules) (bare : List DeriveInput) (asked : ℕ) where
  abbrev Agree : List Unit' → List MetaDecl → Type 0
  Agree units decls = IsMetaUnit bare (unit_under units asked derive.FromMeta) (meta_decl decls asked)

  -- what is compiled from the options of a declaration that have no faults and show no form without a program
  meta_is : (number : ℕ) (decl : DeriveInput) (left : FromMetaImpl) → faults_under rules decl derive.FromMeta ≡ [] → forms_under rules decl derive.FromMeta ≡ []
      → slice_get bare number ≡ Some (without_attributes decl) → IsMetaImpl left (options_of (meta_reader rules decl) decl)
      → IsMetaDecl (declared_variants (slice_get bare number)) left (meant_meta number (variants_of decl.body) (options_of (meta_reader rules decl) decl))
  meta_is number decl left faultless supported stands is =
      let options = options_of (meta_reader rules decl) decl in
      let bare_variants = variants_of (body_without decl.body) in
      let P : Option DeriveInput → Type 0 = λ found. IsMetaDecl (declared_variants found) left (meant_meta number (variants_of decl.body) options) in
      let Q : MetaDecl → Type 0 = λ meant. IsMetaDecl bare_variants left meant in
      subst P (sym stands) (subst Q (meta_same number decl.body options) (meta_options_are rules decl left number bare_variants faultless supported is))

  -- a unit that reads no metas is passed
  passes : (unit : Unit') (units : List Unit') (decls : List MetaDecl) → under_meta unit ≡ false → Agree units decls → Agree (unit ∷ units) decls
  passes unit units decls not are =
      let later = unit_under units asked derive.FromMeta in
      let P : Bool → Type 0 = λ test. IsMetaUnit bare (if (unit.decl == asked) && test then Some unit else later) (meta_decl decls asked) in
      subst P (sym not) (passed bare (unit.decl == asked) unit later (meta_decl decls asked) are)

  step : (number : ℕ) (decl : DeriveInput) (derive : Derive) (unit : Unit') (units : List Unit') (decls : List MetaDecl)
      → faults_under rules decl derive ≡ [] → forms_under rules decl derive ≡ [] → slice_get bare number ≡ Some (without_attributes decl)
      → IsUnitUnder rules number decl derive unit → Agree units decls
      → Agree (unit ∷ units) (decls_under rules number decl derive ++ decls)
  step number decl derive.FromMeta unit units decls faultless supported stands (left, is, compiled) are =
      let it = meant_meta number (variants_of decl.body) (options_of (meta_reader rules decl) decl) in
      let P : Unit' → Type 0 = λ u. Agree (u ∷ units) (it ∷ decls) in
      let made = compiled_meta left number in
      subst P (sym compiled)
      (chosen bare (number == asked) made it (unit_under units asked derive.FromMeta) (meta_decl decls asked)
      (left, refl, meta_is number decl left faultless supported stands is, ap (λ ident. named_type ident.text) is.base.ident)
      are)
  step number decl derive.FromAttributes unit units decls faultless supported stands (left, is, compiled) are =
      passes unit units decls (ap under_meta compiled) are
  step number decl derive.FromDeriveInput unit units decls faultless supported stands (left, is, compiled) are =
      passes unit units decls (ap under_meta compiled) are
  step number decl derive.FromField unit units decls faultless supported stands (left, is, compiled) are =
      passes unit units decls (ap under_meta compiled) are
  step number decl derive.FromTypeParam unit units decls faultless supported stands (left, is, compiled) are =
      passes unit units decls (ap under_meta compiled) are
  step number decl derive.FromVariant unit units decls faultless supported stands (left, is, compiled) are =
      passes unit units decls (ap under_meta compiled) are

  units_are : (pairs : List Pair) (units : List Unit') → AllByRecursion (IsFaultless rules) pairs → AllByRecursion (IsSupported rules) pairs
      → AllByRecursion (StandsBare bare) pairs → AllZip (IsUnit rules) pairs units → Agree units (flat_map (pair_decls rules) pairs)
  units_are [] [] faultless supported stands zip = tt
  units_are [] (unit ∷ units) faultless supported stands zip = absurd zip
  units_are (it ∷ pairs) [] faultless supported stands zip = absurd zip
  units_are (it ∷ pairs) (unit ∷ units) faultless supported stands zip =
      step it.number it.decl it.derive unit units (flat_map (pair_decls rules) pairs) faultless.0 supported.0 stands.0 zip.0
      (units_are pairs units faultless.1 supported.1 stands.1 zip.1)

-- ---- options without faults

all-left : (P : Pair → Type 0) (one other : List Pair) → AllByRecursion P (one ++ other) → AllByRecursion P one
all-left P [] other are = tt
all-left P (it ∷ one) other are = (are.0, all-left P one other are.1)

all-right : (P : Pair → Type 0) (one other : List Pair) → AllByRecursion P (one ++ other) → AllByRecursion P other
all-right P [] other are = are
all-right P (it ∷ one) other are = all-right P one other are.1

module _ (rules : Rules) where
  -- `FromDeriveInput`, or one of those behind it
  one_faultless : (number : ℕ) (decl : DeriveInput) (it : Derive) (rest : Bool) → faults_under rules decl it ≡ [] → (is_input it || rest) ≡ true
      → (rest ≡ true → faults_under rules decl derive.FromDeriveInput ≡ []) → faults_under rules decl derive.FromDeriveInput ≡ []
  one_faultless number decl derive.FromMeta rest none is later = later is
  one_faultless number decl derive.FromAttributes rest none is later = later is
  one_faultless number decl derive.FromDeriveInput rest none is later = none
  one_faultless number decl derive.FromField rest none is later = later is
  one_faultless number decl derive.FromTypeParam rest none is later = later is
  one_faultless number decl derive.FromVariant rest none is later = later is

  among_faultless : (number : ℕ) (decl : DeriveInput) (its : List Derived)
      → AllByRecursion (IsFaultless rules) (map (λ (it : Derived). pair number decl it.derive) its) → derives_input its ≡ true
      → faults_under rules decl derive.FromDeriveInput ≡ []
  among_faultless number decl [] are is = absurd cc
  among_faultless number decl (it ∷ its) are is =
      one_faultless number decl it.derive (derives_input its) are.0 is (among_faultless number decl its are.1)

  input_faultless : (first : ℕ) (decls : List DeriveInput) (place : ℕ) (decl : DeriveInput) → AllByRecursion (IsFaultless rules) (pairs_from first decls)
      → slice_get decls place ≡ Some decl → derives_input (derives_of decl.attrs) ≡ true → faults_under rules decl derive.FromDeriveInput ≡ []
  input_faultless first [] place decl are stands is = absurd (none-some decl stands)
  input_faultless first (one ∷ decls) zero decl are stands is =
      let P : DeriveInput → Type 0 = λ it. derives_input (derives_of it.attrs) ≡ true → faults_under rules it derive.FromDeriveInput ≡ [] in
      subst P (same_Some one decl stands)
      (among_faultless first one (derives_of one.attrs) (all-left (IsFaultless rules) (pairs_of first one) (pairs_from (suc first) decls) are)) is
  input_faultless first (one ∷ decls) (suc place) decl are stands is =
      input_faultless (suc first) decls place decl (all-right (IsFaultless rules) (pairs_of first one) (pairs_from (suc first) decls) are) stands is

-- ---- the program

pub program_is_meant : ProgramIsMeant
program_is_meant host rules decls program number decl unit subject is faultless supported built stands once derives (left, left_is, compiled) =
    let input : input_places decl ≡ [] = input_built decl (at_place IsBuilt decls number decl built stands) derives in
    let meant = input_outer rules number decl in
    let clean = each_faultless rules (pairs_from 0 decls) faultless in
    let bare : slice_get program.decls number ≡ Some (without_attributes decl) =
    ap (λ bare. slice_get bare number) is.bare ∙ slice_get-map without_attributes decls number ∙ ap (option_map without_attributes) stands in
    let bare_all : (k : ℕ) → slice_get program.decls (0 + k) ≡ slice_get (map without_attributes decls) k = λ k.
    let here : 0 + k ≡ k = omega arith in
    ap (slice_get program.decls) here ∙ ap (λ bare. slice_get bare k) is.bare in
    let units : AreMetaUnits program.decls program.units (meta_decls rules decls) = λ asked.
    units_are rules program.decls asked (pairs_from 0 decls) program.units clean (each_supported rules decls supported) (bare_pairs program.decls 0 decls bare_all)
    is.units in
    let unit_is : IsElementUnit (setting_of host program) unit meant = (
      left,
      compiled,
      input_elements_are rules decl left number (receiver_of (setting_of host program) unit) (input_faultless rules 0 decls number decl clean stands derives) input
          once left_is
          (ap unit_type compiled ∙ ap (λ ident. named_type ident.text) left_is.outer.base.ident)
          (ap (λ (it : Unit'). slice_get program.decls it.decl) compiled ∙ bare),
    ) in
    elements_are_meant host program unit (meta_decls rules decls) (outer_decls rules decls) meant subject units unit_is (takes_no_body rules number decl input)
    ∙ ap (λ bare. let setting : Setting = record { host = host; decls = bare } in
    Some (declared_element_meaning setting (meta_decls rules decls) (outer_decls rules decls) meant (OnInput subject))) is.bare
