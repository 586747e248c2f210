-- Lists of numbers that rise, and units whose numbers do.
use Rattle.std.proofs.Common.{◌≡◌, ◌∙◌, ℕ, zero, suc, ◌<◌, ◌≤◌, ◌==◌, true, false, ◌&&◌, leb, List, [], ◌∷◌, length, drop, get_or, Some, None, if◌then◌else◌, refl, ap, sym, subst, arith}
use Rattle.std.proofs.lemmas.Bool.{and_parts}
use Rattle.std.proofs.lemmas.List.{drop-map, get_or-map, length-map}
use Rattle.std.proofs.lemmas.Bool.Decides.{nat_tests}
use Rattle.codegen_program.specs.declared.program.Derive.{Derive}
use Rattle.codegen_program.specs.declared.program.«Unit».{«Unit» as Unit'}
use Rattle.codegen_program.specs.Traits.{same_derive}
use Rattle.machine_read.specs.Machine.{unit_under}
use Rattle.machine_execute.specs.Order.{number_at, numbers, rises_from}

-- in a list that rises from a number, none is below it
above : (last : ℕ) (list : List ℕ) (at : ℕ) → rises_from last list ≡ true → at < length list → last ≤ get_or list at 0
above last [] at rises lt = let bad : ⊥ = omega (arith, lt) in absurd bad
above last (number ∷ more) zero rises lt = grind (arith, nat_tests)
above last (number ∷ more) (suc at) rises lt =
    let parts = and_parts (leb last number) (rises_from number more) rises in
    let rest : number ≤ get_or more at 0 = above number more at parts.1 (omega (arith, lt)) in
    let first : last ≤ number = grind (arith, nat_tests) in
    omega (arith, first, rest)

-- a list that rises has no later number that is less
pub rising : (last : ℕ) (list : List ℕ) (i j : ℕ) → rises_from last list ≡ true → i ≤ j → j < length list → get_or list i 0 ≤ get_or list j 0
rising last [] i j rises le lt = let bad : ⊥ = omega (arith, lt) in absurd bad
rising last (number ∷ more) zero zero rises le lt = omega arith
rising last (number ∷ more) zero (suc j) rises le lt =
    let parts = and_parts (leb last number) (rises_from number more) rises in above number more j parts.1 (omega (arith, lt))
rising last (number ∷ more) (suc i) zero rises le lt = let bad : ⊥ = omega (arith, le) in absurd bad
rising last (number ∷ more) (suc i) (suc j) rises le lt =
    let parts = and_parts (leb last number) (rises_from number more) rises in rising number more i j parts.1 (omega (arith, le)) (omega (arith, lt))

-- units of other numbers in front are passed over
pub passed : (units : List Unit') (number : ℕ) (derive : Derive) (count : ℕ) → ((i : ℕ) → i < count → number_at units i < number) → count ≤ length units
    → unit_under units number derive ≡ unit_under (drop count units) number derive
passed units number derive zero before le = refl
passed [] number derive (suc count) before le = let bad : ⊥ = omega (arith, le) in absurd bad
passed (unit ∷ units) number derive (suc count) before le =
    let less : unit.decl < number = before 0 (omega arith) in
    let other : (unit.decl == number) ≡ false = grind (arith, nat_tests) in
    ap (λ b. if b && same_derive unit.derive derive then Some unit else unit_under units number derive) other
    ∙ passed units number derive count (λ i lt. before (suc i) (omega (arith, lt))) (omega (arith, le))

-- where the numbers rise from a higher one, none is under the number
pub none_above : (units : List Unit') (number last : ℕ) (derive : Derive) → number < last → rises_from last (numbers units) ≡ true → unit_under units number derive ≡ None
none_above [] number last derive lt rises = refl
none_above (unit ∷ units) number last derive lt rises =
    let parts = and_parts (leb last unit.decl) (rises_from unit.decl (numbers units)) rises in
    let more : last ≤ unit.decl = grind (arith, nat_tests) in
    let other : (unit.decl == number) ≡ false = grind (arith, nat_tests) in
    ap (λ b. if b && same_derive unit.derive derive then Some unit else unit_under units number derive) other
    ∙ none_above units number unit.decl derive (omega (arith, lt, more)) parts.1

-- what is left of a list that rises, from its first
left_rises : (last : ℕ) (list : List ℕ) (at : ℕ) → rises_from last list ≡ true → at < length list → rises_from (get_or list at 0) (drop at list) ≡ true
left_rises last [] at rises lt = let bad : ⊥ = omega (arith, lt) in absurd bad
left_rises last (number ∷ more) zero rises lt =
    let parts = and_parts (leb last number) (rises_from number more) rises in
    let same : leb number number ≡ true = grind (arith, nat_tests) in
    ap (λ b. b && rises_from number more) same ∙ parts.1
left_rises last (number ∷ more) (suc at) rises lt =
    let parts = and_parts (leb last number) (rises_from number more) rises in left_rises number more at parts.1 (omega (arith, lt))

-- the number of the unit at a place
pub number_is : (units : List Unit') (at : ℕ) (unit : Unit') → at < length units → unit ≡ get_or units at unit → number_at units at ≡ unit.decl
number_is units at unit lt is = get_or-map (λ (it : Unit'). it.decl) units at unit 0 lt ∙ sym (ap (λ (it : Unit'). it.decl) is)

-- behind a unit of a higher number none is under the number
pub stops : (units : List Unit') (number : ℕ) (derive : Derive) (at : ℕ) (unit : Unit') → rises_from 0 (numbers units) ≡ true → at < length units → unit ≡ get_or units at unit → number < unit.decl
    → unit_under (drop at units) number derive ≡ None
stops units number derive at unit rises lt is less =
    let within : at < length (numbers units) = subst (λ n. at < n) (sym (length-map units (λ (it : Unit'). it.decl))) lt in
    let more : number < number_at units at = subst (λ n. number < n) (sym (number_is units at unit lt is)) less in
    none_above (drop at units) number (number_at units at) derive more
    (subst (λ list. rises_from (number_at units at) list ≡ true) (drop-map (λ (it : Unit'). it.decl) at units) (left_rises 0 (numbers units) at rises within))

-- a unit at a place and all before it are of lower numbers
pub below_at : (units : List Unit') (at : ℕ) (unit : Unit') (number : ℕ) → rises_from 0 (numbers units) ≡ true → at < length units → unit ≡ get_or units at unit → unit.decl < number
    → (i : ℕ) → i ≤ at → number_at units i < number
below_at units at unit number rises lt is less i le =
    let within : at < length (numbers units) = subst (λ n. at < n) (sym (length-map units (λ (it : Unit'). it.decl))) lt in
    let up : number_at units i ≤ number_at units at = rising 0 (numbers units) i at rises le within in
    let here : number_at units at ≡ unit.decl = number_is units at unit lt is in
    omega (arith, up, here, less)

-- a unit at a place and all behind it are of no lower numbers
pub above_at : (units : List Unit') (at : ℕ) (unit : Unit') (number : ℕ) → rises_from 0 (numbers units) ≡ true → at < length units → unit ≡ get_or units at unit → number ≤ unit.decl
    → (i : ℕ) → at ≤ i → i < length units → number ≤ number_at units i
above_at units at unit number rises lt is most i le behind =
    let within : i < length (numbers units) = subst (λ n. i < n) (sym (length-map units (λ (it : Unit'). it.decl))) behind in
    let up : number_at units at ≤ number_at units i = rising 0 (numbers units) at i rises le within in
    let here : number_at units at ≡ unit.decl = number_is units at unit lt is in
    omega (arith, up, here, most)
