-- Declarations with their derives: those whose options have no faults, and the units that are made of them.
use Rattle.std.proofs.Common.{◌≡◌, ◌∙◌, ◌==◌, ◌&&◌, ℕ, zero, suc, Bool, true, false, List, [], ◌∷◌, flat_map, slice_get, Some, None, if◌then◌else◌, IsTrue, All, Contains, refl, sym, subst₂, eqb-true}
use Rattle.std.specs.List.{AllZip}
use Rattle.std.proofs.lemmas.Bool.{and_parts}
use Rattle.std.proofs.lemmas.List.Elements.{All-from_recursion}
use Rattle.std.proofs.lemmas.Option.{none-some, same_Some}
use Rattle.node_core.specs.declared.derive.DeriveInput.{DeriveInput}
use Rattle.codegen_program.specs.declared.program.Derive.{Derive}
use Rattle.codegen_program.specs.declared.program.Derive.TheVariants as derive
use Rattle.codegen_program.specs.declared.program.«Unit».{«Unit» as Unit'}
use Rattle.codegen_program.specs.Traits.{is_input}
use Rattle.law_asks.specs.Units.{is_of, is_receiver}
use Rattle.meaning_core.specs.Receivers.{MetaDecl}
use Rattle.meaning_core.specs.Declarations.{meta_decl}
use Rattle.run_accepted.specs.Compiled.{IsUnit, IsUnitUnder}
use Rattle.run_accepted.specs.Derives.{derives_of}
use Rattle.run_accepted.specs.Pairs.{Pair, faults_under, pair, pairs_from, rejected}
use Rattle.run_accepted.specs.Unbuilt.{derives_input}
use Rattle.run_source.specs.Stages.{meta_reader, options_of}
use Rattle.run_source.specs.Values.{Rules}
use Rattle.machine_steps.specs.Receivers.{variants_of}
use Rattle.law_options.specs.Meant.{meant_meta}
use Rattle.law_options.specs.Texts.{meta_decls, pair_decls}
use Rattle.run_accepted.proofs.ListLemmas.{at_place, opposite}
use Rattle.run_accepted.proofs.UnitLemmas.{Stands, all_stand, derive_is, number_is}
use Rattle.law_options.proofs.Clear.{IsFaultless, each_faultless}
use Rattle.run_source.proofs.ReceiverLemmas.{Derives, all_derive, first_passes}
use Rattle.law_accepted.proofs.Lists.{contained}

-- ---- pairs

all_faultless : (rules : Rules) (pairs : List Pair) → rejected rules pairs ≡ None → All (IsFaultless rules) pairs
all_faultless rules pairs none = All-from_recursion (IsFaultless rules) pairs (each_faultless rules pairs none)

-- ---- units

-- Of the declaration of this number a unit is made under this derive, and nothing is wrong with its options.
pub record IsMade (rules : Rules) (decls : List DeriveInput) (units : List Unit') (number : ℕ) (under : Derive) : Type 0 where
  pub decl : DeriveInput
  pub stands : slice_get decls number ≡ Some decl
  pub derives : is_input under ≡ true → derives_input (derives_of decl.attrs) ≡ true
  pub faultless : faults_under rules decl under ≡ []
  pub unit : Unit'
  pub among : Contains units unit
  pub numbered : unit.decl ≡ number
  pub made : IsUnitUnder rules number decl under unit

-- the unit at a place is made of the pair at that place, of which more holds
record IsAt (rules : Rules) (pairs : List Pair) (units : List Unit') (More : Pair → Type 0) : Type 0 where
  place : ℕ
  it : Pair
  unit : Unit'
  of_pair : slice_get pairs place ≡ Some it
  of_unit : slice_get units place ≡ Some unit
  made : IsUnit rules it unit
  more : More it

module _ (rules : Rules) where
  later : (More : Pair → Type 0) (first : Pair) (unit : Unit') (pairs : List Pair) (units : List Unit') → IsAt rules pairs units More → IsAt rules (first ∷ pairs) (unit ∷ units) More
  later More first unit pairs units at =
      record { place = suc at.place; it = at.it; unit = at.unit; of_pair = at.of_pair; of_unit = at.of_unit; made = at.made; more = at.more }

  -- ---- items

  -- the pair is of this number, and what its options mean under `FromMeta` is the declaration
  abbrev IsItem : ℕ → MetaDecl → Pair → Type 0
  IsItem number found it =
      (it.number ≡ number) × (it.derive ≡ derive.FromMeta) × (found ≡ meant_meta it.number (variants_of it.decl.body) (options_of (meta_reader rules it.decl) it.decl))

  module _ (number : ℕ) (found : MetaDecl) where
    chosen : (at : ℕ) (decl : DeriveInput) (unit : Unit') (pairs : List Pair) (units : List Unit') (test : Bool) → (at == number) ≡ test
        → IsUnitUnder rules at decl derive.FromMeta unit
        → (if test then Some (meant_meta at (variants_of decl.body) (options_of (meta_reader rules decl) decl)) else meta_decl (flat_map (pair_decls rules) pairs) number)
        ≡ Some found
        → (meta_decl (flat_map (pair_decls rules) pairs) number ≡ Some found → IsAt rules pairs units (IsItem number found))
        → IsAt rules (pair at decl derive.FromMeta ∷ pairs) (unit ∷ units) (IsItem number found)
    chosen at decl unit pairs units true same made is rest =
        record {
          place = zero;
          it = pair at decl derive.FromMeta;
          unit = unit;
          of_pair = refl;
          of_unit = refl;
          made = made;
          more = (eqb-true at number same, refl, sym (same_Some _ found is));
        }
    chosen at decl unit pairs units false same made is rest =
        later (IsItem number found) (pair at decl derive.FromMeta) unit pairs units (rest is)

    item_step : (at : ℕ) (decl : DeriveInput) (it : Derive) (unit : Unit') (pairs : List Pair) (units : List Unit') → IsUnitUnder rules at decl it unit
        → meta_decl (flat_map (pair_decls rules) (pair at decl it ∷ pairs)) number ≡ Some found
        → (meta_decl (flat_map (pair_decls rules) pairs) number ≡ Some found → IsAt rules pairs units (IsItem number found))
        → IsAt rules (pair at decl it ∷ pairs) (unit ∷ units) (IsItem number found)
    item_step at decl derive.FromMeta unit pairs units made is rest = chosen at decl unit pairs units (at == number) refl made is rest
    item_step at decl derive.FromDeriveInput unit pairs units made is rest =
        later (IsItem number found) (pair at decl derive.FromDeriveInput) unit pairs units (rest is)
    item_step at decl derive.FromAttributes unit pairs units made is rest =
        later (IsItem number found) (pair at decl derive.FromAttributes) unit pairs units (rest is)
    item_step at decl derive.FromField unit pairs units made is rest =
        later (IsItem number found) (pair at decl derive.FromField) unit pairs units (rest is)
    item_step at decl derive.FromTypeParam unit pairs units made is rest =
        later (IsItem number found) (pair at decl derive.FromTypeParam) unit pairs units (rest is)
    item_step at decl derive.FromVariant unit pairs units made is rest =
        later (IsItem number found) (pair at decl derive.FromVariant) unit pairs units (rest is)

    item_at : (pairs : List Pair) (units : List Unit') → AllZip (IsUnit rules) pairs units → meta_decl (flat_map (pair_decls rules) pairs) number ≡ Some found
        → IsAt rules pairs units (IsItem number found)
    item_at [] [] zip is = absurd (none-some found is)
    item_at [] (unit ∷ units) zip is = absurd zip
    item_at (it ∷ pairs) [] zip is = absurd zip
    item_at (it ∷ pairs) (unit ∷ units) zip is = item_step it.number it.decl it.derive unit pairs units zip.0 is (item_at pairs units zip.1)

  -- ---- units of accepted declarations

  module _ (decls : List DeriveInput) (units : List Unit') (none : rejected rules (pairs_from 0 decls) ≡ None) (zip : AllZip (IsUnit rules) (pairs_from 0 decls) units) where
    made_at : (More : Pair → Type 0) (at : IsAt rules (pairs_from 0 decls) units More) → IsMade rules decls units at.it.number at.it.derive
    made_at More at =
        let it = at.it in
        record {
          decl = it.decl;
          stands = at_place (Stands decls) (pairs_from 0 decls) at.place it (all_stand decls) at.of_pair;
          derives = at_place Derives (pairs_from 0 decls) at.place it (all_derive decls) at.of_pair;
          faultless = at_place (IsFaultless rules) (pairs_from 0 decls) at.place it (all_faultless rules (pairs_from 0 decls) none) at.of_pair;
          unit = at.unit;
          among = contained units at.place at.unit at.of_unit;
          numbered = number_is rules it.number it.decl it.derive at.unit at.made;
          made = at.made;
        }

    -- what is made of the declaration of a number under `FromMeta`, by whose options items are read as this
    abbrev pub IsItemMade : ℕ → MetaDecl → Type 0
    IsItemMade number found =
        (it : IsMade rules decls units number derive.FromMeta) × (found ≡ meant_meta number (variants_of it.decl.body) (options_of (meta_reader rules it.decl) it.decl))

    renamed : (number at : ℕ) (found : MetaDecl) (it : Derive) → at ≡ number → it ≡ derive.FromMeta → (made : IsMade rules decls units at it)
        → found ≡ meant_meta at (variants_of made.decl.body) (options_of (meta_reader rules made.decl) made.decl) → IsItemMade number found
    renamed number at found it same under made is =
        let P : ℕ → Derive → Type 0 = λ n d.
        (some : IsMade rules decls units n d) × (found ≡ meant_meta n (variants_of some.decl.body) (options_of (meta_reader rules some.decl) some.decl)) in
        subst₂ P same under (made, is)

    -- a declaration that items are read as has its unit
    pub item_made : (number : ℕ) (found : MetaDecl) → meta_decl (meta_decls rules decls) number ≡ Some found → IsItemMade number found
    unfolding made_at
    item_made number found is =
        let at = item_at number found (pairs_from 0 decls) units zip is in
        renamed number at.it.number found at.it.derive at.more.0 at.more.1 (made_at (IsItem number found) at) at.more.2

    -- so has one that items of a text are read as
    pub input_made : (number : ℕ) → IsTrue (is_receiver units number) → IsMade rules decls units number derive.FromDeriveInput
    input_made number receives =
        let (place, unit, first, of_unit, passes) = first_passes (λ (unit : Unit'). is_of number unit && is_input unit.derive) units receives in
        let (it, of_pair, made) = opposite (IsUnit rules) (pairs_from 0 decls) units place unit zip of_unit in
        let parts = and_parts (is_of number unit) (is_input unit.derive) passes in
        let at = made_at (λ other. Unit {0}) (record { place = place; it = it; unit = unit; of_pair = of_pair; of_unit = of_unit; made = made; more = tt }) in
        subst₂ (IsMade rules decls units) (sym (number_is rules it.number it.decl it.derive unit made) ∙ eqb-true unit.decl number parts.0)
        (derive_is rules it.number it.decl it.derive unit made parts.1) at
