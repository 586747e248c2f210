-- A program repeats no name and no derive where its declarations don't.
use Rattle.std.proofs.Common.{◌≡◌, ◌∙◌, ◌<◌, ◌==◌, ℕ, suc, Bool, true, false, List, [], ◌∷◌, ◌++◌, map, filter, None, refl, sym, ap, ap₂, subst, append-nil, arith, eqb-true, ne_eqb}
use Rattle.std.specs.Prelude.{flat_map}
use Rattle.std.specs.List.{AllZip}
use Rattle.std.proofs.lemmas.List.Elements.{filter-append}
use mathlib.Core.List.{append-eq-nil_iff}
use Rattle.node_core.specs.declared.derive.DeriveInput.{DeriveInput}
use Rattle.codegen_program.specs.declared.program.Program.{Program}
use Rattle.codegen_program.specs.declared.program.«Unit».{«Unit» as Unit'}
use Rattle.machine_forms.specs.Names.{duplicate_names, names_in, repeated_names}
use Rattle.machine_forms.specs.Units.{has_twins, is_of, units_of}
use Rattle.run_accepted.specs.Attributes.{without_attributes}
use Rattle.run_accepted.specs.Derives.{derives_of}
use Rattle.run_accepted.specs.declared.derives.Derived.{Derived}
use Rattle.options_rows.specs.Values.{Rules}
use Rattle.run_accepted.specs.Compiled.{IsProgram, IsUnit}
use Rattle.run_accepted.specs.Pairs.{Pair, pair, pairs_from, pairs_of}
use Rattle.run_accepted.specs.Accepted.{derives_named_again, duplicate}
use Rattle.run_accepted.proofs.DeriveLemmas.{IsOf, no_twins}
use Rattle.run_accepted.proofs.ListLemmas.{AllZip-filter, AllZip-of_map, filter-all, filter-none}
use Rattle.run_accepted.proofs.NameLemmas.{only_names, same_names}
use Rattle.run_accepted.proofs.PlaceLemmas.{none_first}
use Rattle.run_accepted.proofs.UnitLemmas.{number_is, under_is}

-- the pair is of the declaration of this number
abbrev is_at : ℕ → Pair → Bool
is_at number it = it.number == number

-- the pairs of a declaration that is numbered from here on are of no earlier one
none_before : (number from : ℕ) (decls : List DeriveInput) → number < from → filter (is_at number) (pairs_from from decls) ≡ []
none_before number from [] lt = refl
none_before number from (decl ∷ decls) lt =
    filter-append (is_at number) (pairs_of from decl) (pairs_from (suc from) decls)
    ∙ ap₂ (λ xs ys. xs ++ ys)
    (filter-none (is_at number) (λ (it : Derived). pair from decl it.derive) (λ it. ne_eqb from number (omega arith)) (derives_of decl.attrs))
    (none_before number (suc from) decls (omega arith))

module _ (rules : Rules) where
  -- no two units of these pairs, of the declaration of the number, are of one derive
  abbrev HasNoTwins : ℕ → List Pair → Type 0
  HasNoTwins number pairs = (units : List Unit') → AllZip (IsUnit rules) (filter (is_at number) pairs) units → has_twins units ≡ false

  by_number : (number from : ℕ) (decl : DeriveInput) (decls : List DeriveInput) (same : Bool) → (from == number) ≡ same → derives_named_again decl ≡ []
      → HasNoTwins number (pairs_from (suc from) decls) → HasNoTwins number (pairs_from from (decl ∷ decls))
  by_number number from decl decls true is single rest units are =
      let with : Derived → Pair = λ it. pair from decl it.derive in
      let its = derives_of decl.attrs in
      let P : List Pair → Type 0 = λ pairs. AllZip (IsUnit rules) pairs units in
      let same : from ≡ number = eqb-true from number is in
      let kept : filter (is_at number) (pairs_from from (decl ∷ decls)) ≡ map with its =
      filter-append (is_at number) (pairs_of from decl) (pairs_from (suc from) decls)
      ∙ ap₂ (λ xs ys. xs ++ ys) (filter-all (is_at number) with (λ it. is) its) (none_before number (suc from) decls (omega arith))
      ∙ append-nil (map with its) in
      no_twins its units single
      (AllZip-of_map (IsUnit rules) IsOf with (λ it unit. under_is rules from decl it.derive unit) its units (subst P kept are))
  by_number number from decl decls false is single rest units are =
      let with : Derived → Pair = λ it. pair from decl it.derive in
      let P : List Pair → Type 0 = λ pairs. AllZip (IsUnit rules) pairs units in
      rest units
      (subst P
      (filter-append (is_at number) (pairs_of from decl) (pairs_from (suc from) decls)
      ∙ ap (λ xs. xs ++ filter (is_at number) (pairs_from (suc from) decls)) (filter-none (is_at number) with (λ it. is) (derives_of decl.attrs)))
      are)

  none_twice : (number from : ℕ) (decls : List DeriveInput) → flat_map derives_named_again decls ≡ [] → HasNoTwins number (pairs_from from decls)
  none_twice number from [] single [] are = refl
  none_twice number from [] single (unit ∷ units) are = absurd are
  none_twice number from (decl ∷ decls) single units are =
      let both = (append-eq-nil_iff {p = derives_named_again decl} {q = flat_map derives_named_again decls}).0 single in
      by_number number from decl decls (from == number) refl both.0 (none_twice number (suc from) decls both.1) units are

  no_unit_twice : (decls : List DeriveInput) (units : List Unit') → flat_map derives_named_again decls ≡ [] → AllZip (IsUnit rules) (pairs_from 0 decls) units
      → (number : ℕ) → has_twins (units_of units number) ≡ false
  no_unit_twice decls units single are number =
      none_twice number 0 decls single (units_of units number)
      (AllZip-filter (IsUnit rules) (is_at number) (is_of number)
      (λ it unit is. ap (λ n. n == number) (sym (number_is rules it.number it.decl it.derive unit is))) (pairs_from 0 decls) units are)

-- where no name and no derive stands twice in the text, none does in the program
pub no_duplicates : (rules : Rules) (decls : List DeriveInput) (program : Program) → duplicate decls ≡ None → IsProgram rules decls program
    → duplicate_names program ≡ []
no_duplicates rules decls program single is =
    let all = none_first (λ span. span) (flat_map derives_named_again decls ++ repeated_names decls) single in
    let both = (append-eq-nil_iff {p = flat_map derives_named_again decls} {q = repeated_names decls}).0 all in
    ap (names_in (units_of program.units)) is.bare
    ∙ only_names (units_of program.units) (map without_attributes decls) (no_unit_twice rules decls program.units both.0 is.units)
    ∙ same_names decls
    ∙ both.1
