-- Units of derives of which none is named again.
use Rattle.std.proofs.Common.{◌≡◌, ◌∙◌, Bool, true, false, cond, List, [], ◌∷◌, refl, sym, ap, eq-eqb, true≢false}
use Rattle.std.specs.List.{AllZip}
use Rattle.std.proofs.lemmas.Bool.{false_from_ne_true, or_from, or_left, or_right}
use mathlib.Core.List.{append-eq-nil_iff}
use Rattle.tok_types.specs.declared.span.Span.{Span}
use Rattle.codegen_program.specs.Traits.{index_of, same_derive}
use Rattle.codegen_program.specs.declared.program.Derive.{Derive}
use Rattle.codegen_program.specs.declared.program.Derive.TheVariants as derives
use Rattle.codegen_program.specs.declared.program.«Unit».{«Unit» as Unit'}
use Rattle.machine_forms.specs.Units.{has_derive, has_twins}
use Rattle.run_accepted.specs.declared.derives.Derived.{Derived}
use Rattle.run_accepted.specs.Repeated as named
use Rattle.run_accepted.specs.Repeated.{repeated_behind, repeated_derives}

-- the unit is of the derive
abbrev pub IsOf : Derived → Unit' → Type 0
IsOf it unit = unit.derive ≡ it.derive

same_is : (one other : Derive) → same_derive one other ≡ true → one ≡ other
same_is derives.FromMeta derives.FromMeta is = refl
same_is derives.FromAttributes derives.FromAttributes is = refl
same_is derives.FromDeriveInput derives.FromDeriveInput is = refl
same_is derives.FromField derives.FromField is = refl
same_is derives.FromTypeParam derives.FromTypeParam is = refl
same_is derives.FromVariant derives.FromVariant is = refl
same_is _ _ is = absurd (true≢false (sym is))

-- a derive that is not among these is none of them
is_other : (earlier : List Derived) (one other : Derive) → named.has_derive earlier one ≡ false → named.has_derive earlier other ≡ true
    → same_derive one other ≡ false
is_other earlier one other not has = false_from_ne_true _ (λ same. true≢false (sym has ∙ sym (ap (named.has_derive earlier) (same_is one other same)) ∙ not))

not_named : (test : Bool) (span : Span) → cond test (span ∷ []) [] ≡ [] → test ≡ false
not_named true span none = cc
not_named false span none = refl

-- where a derive is named again, its place is told
first_once : (earlier : List Derived) (it : Derived) (rest : List Derived) → repeated_behind earlier (it ∷ rest) ≡ []
    → (named.has_derive earlier it.derive ≡ false) × (repeated_behind (it ∷ earlier) rest ≡ [])
first_once earlier it rest none =
    let test = named.has_derive earlier it.derive in
    let both = (append-eq-nil_iff {p = cond test (it.span ∷ []) []} {q = repeated_behind (it ∷ earlier) rest}).0 none in
    (not_named test it.span both.0, both.1)

-- a derive that stands before is not named again
not_again : (earlier rest : List Derived) (units : List Unit') (derive : Derive) → named.has_derive earlier derive ≡ true → repeated_behind earlier rest ≡ []
    → AllZip IsOf rest units → has_derive derive units ≡ false
not_again earlier [] [] derive has none are = refl
not_again earlier [] (unit ∷ units) derive has none are = absurd are
not_again earlier (it ∷ rest) [] derive has none are = absurd are
not_again earlier (it ∷ rest) (unit ∷ units) derive has none are =
    let once = first_once earlier it rest none in
    or_from _ _
    (ap (λ one. same_derive one derive) are.0 ∙ is_other earlier it.derive derive once.0 has)
    (not_again (it ∷ earlier) rest units derive (or_right _ _ has) once.1 are.1)

single : (earlier rest : List Derived) (units : List Unit') → repeated_behind earlier rest ≡ [] → AllZip IsOf rest units → has_twins units ≡ false
single earlier [] [] none are = refl
single earlier [] (unit ∷ units) none are = absurd are
single earlier (it ∷ rest) [] none are = absurd are
single earlier (it ∷ rest) (unit ∷ units) none are =
    let once = first_once earlier it rest none in
    let itself = or_left _ (named.has_derive earlier it.derive) (eq-eqb (index_of it.derive) (index_of it.derive) refl) in
    or_from _ _
    (ap (λ derive. has_derive derive units) are.0 ∙ not_again (it ∷ earlier) rest units it.derive itself once.1 are.1)
    (single (it ∷ earlier) rest units once.1 are.1)

-- where no derive is named again, no two units are of one derive
pub no_twins : (its : List Derived) (units : List Unit') → repeated_derives its ≡ [] → AllZip IsOf its units → has_twins units ≡ false
no_twins = single []
