-- Pairs one after another: their units, and the first that is rejected.
use Rattle.std.proofs.Common.{◌≡◌, ◌∙◌, ℕ, suc, ◌+◌, ◌<◌, List, [], ◌∷◌, ◌++◌, length, get_or, drop, drop-cons, add-one, map, Option, Some, None, Err, refl, sym, ap, subst, append_assoc, append-nil}
use Rattle.std.specs.List.{AllZip}
use Rattle.std.specs.Option.{option_or}
use Rattle.node_core.specs.declared.derive.DeriveInput.{DeriveInput}
use Rattle.codegen_program.specs.declared.program.Derive.{Derive}
use Rattle.codegen_program.specs.declared.program.«Unit».{«Unit» as Unit'}
use Rattle.options_rows.specs.Values.{Rules}
use Rattle.run_accepted.specs.declared.rejected.CompileFail.{CompileFail}
use Rattle.run_accepted.specs.declared.rejected.CompileFail.TheVariants as fails
use Rattle.run_accepted.specs.declared.rejected.Rejected.{Rejected}
use Rattle.run_accepted.specs.Compiled.{Compiles, IsUnit, IsUnitUnder}
use Rattle.run_accepted.specs.Pairs.{Pair, faults_under, pair, pairs_from, pairs_of, rejected, rejected_with}
use Rattle.run_accepted.specs.Steps.{AreUnits, FailsUnder, Rejects}

option_or_assoc : {A : Type 0} (a b c : Option A) → option_or (option_or a b) c ≡ option_or a (option_or b c)
option_or_assoc None b c = refl
option_or_assoc (Some x) b c = refl

zip-push : {A B : Type 0} (R : A → B → Type 0) (xs : List A) (ys : List B) (x : A) (y : B) → AllZip R xs ys → R x y
    → AllZip R (xs ++ x ∷ []) (ys ++ y ∷ [])
zip-push R [] [] x y zip is = (is, tt)
zip-push R [] (other ∷ ys) x y zip is = absurd zip
zip-push R (other ∷ xs) [] x y zip is = absurd zip
zip-push R (a ∷ xs) (b ∷ ys) x y zip is = (zip.0, zip-push R xs ys x y zip.1 is)

drop-next : {A : Type 0} (xs : List A) (i : ℕ) (x : A) → i < length xs → x ≡ get_or xs i x → drop i xs ≡ x ∷ drop (i + 1) xs
drop-next xs i x lt is =
    drop-cons xs i x lt ∙ ap (λ y. y ∷ drop (suc i) xs) (sym is) ∙ ap (λ n. x ∷ drop n xs) (sym (add-one i))

pub map_next : {A B : Type 0} (f : A → B) (xs : List A) (i : ℕ) (d : A) → i < length xs
    → map f (drop i xs) ≡ (f (get_or xs i d) ∷ []) ++ map f (drop (i + 1) xs)
map_next f xs i d lt = ap (map f) (drop-cons xs i d lt ∙ ap (λ n. get_or xs i d ∷ drop n xs) (sym (add-one i)))

pub pairs_next : (decls : List DeriveInput) (i : ℕ) (decl : DeriveInput) → i < length decls → decl ≡ get_or decls i decl
    → pairs_from i (drop i decls) ≡ pairs_of i decl ++ pairs_from (i + 1) (drop (i + 1) decls)
pairs_next decls i decl lt is =
    ap (pairs_from i) (drop-next decls i decl lt is)
    ∙ ap (λ n. pairs_of i decl ++ pairs_from n (drop (i + 1) decls)) (sym (add-one i))

module _ (rules : Rules) where
  rejected-append : (xs ys : List Pair) → rejected rules (xs ++ ys) ≡ option_or (rejected rules xs) (rejected rules ys)
  rejected-append [] ys = refl
  rejected-append (x ∷ xs) ys =
      let one = rejected_with x.decl x.derive (faults_under rules x.decl x.derive) in
      ap (option_or one) (rejected-append xs ys) ∙ sym (option_or_assoc one (rejected rules xs) (rejected rules ys))

  behind_none : (xs ys : List Pair) → rejected rules xs ≡ None → rejected rules (xs ++ ys) ≡ rejected rules ys
  behind_none xs ys none = rejected-append xs ys ∙ ap (λ first. option_or first (rejected rules ys)) none

  first_stays : (xs ys : List Pair) (it : Rejected) → rejected rules xs ≡ Some it → rejected rules (xs ++ ys) ≡ Some it
  first_stays xs ys it is = rejected-append xs ys ∙ ap (λ first. option_or first (rejected rules ys)) is

  rejects_stays : (xs ys : List Pair) (fail : CompileFail) → Rejects rules xs fail → Rejects rules (xs ++ ys) fail
  rejects_stays xs ys (fails.Rejected it) is = first_stays xs ys it is
  rejects_stays xs ys fails.NoMemory is = tt

  -- one pair more

  pub one_more : (before : List Pair) (units : List Unit') (number : ℕ) (decl : DeriveInput) (derive : Derive) (unit : Unit')
      → faults_under rules decl derive ≡ [] → IsUnitUnder rules number decl derive unit → AreUnits rules before units
      → AreUnits rules (before ++ pair number decl derive ∷ []) (units ++ unit ∷ [])
  one_more before units number decl derive unit none is are =
      record {
        sound =
            behind_none before (pair number decl derive ∷ []) are.sound
            ∙ ap (λ faults. option_or (rejected_with decl derive faults) None) none;
        made = zip-push (IsUnit rules) before units (pair number decl derive) unit are.made is;
      }

  pub one_fails : (before : List Pair) (units : List Unit') (number : ℕ) (decl : DeriveInput) (derive : Derive) (fail : CompileFail)
      → FailsUnder rules decl derive fail → AreUnits rules before units → Rejects rules (before ++ pair number decl derive ∷ []) fail
  one_fails before units number decl derive (fails.Rejected it) is are =
      behind_none before (pair number decl derive ∷ []) are.sound ∙ ap (λ first. option_or first None) is
  one_fails before units number decl derive fails.NoMemory is are = tt

  -- pairs in a loop: of these in all, the rest is left, and the units of those before it are made
  pub record Goes (total rest : List Pair) (units : List Unit') : Type 0 where
    pub done : List Pair
    pub are : AreUnits rules done units
    pub all : done ++ rest ≡ total

  pub begins : (before pairs : List Pair) (units : List Unit') → AreUnits rules before units → Goes (before ++ pairs) pairs units
  begins before pairs units are = record { done = before; are = are; all = refl }

  all_of : (total rest front later : List Pair) (units : List Unit') (goes : Goes total rest units) → rest ≡ front ++ later
      → (goes.done ++ front) ++ later ≡ total
  all_of total rest front later units goes same =
      append_assoc goes.done front later ∙ ap (λ xs. goes.done ++ xs) (sym same) ∙ goes.all

  pub goes_on : (total rest front later : List Pair) (old new : List Unit') → rest ≡ front ++ later
      → ((before : List Pair) → AreUnits rules before old → AreUnits rules (before ++ front) new)
      → Goes total rest old → Goes total later new
  goes_on total rest front later old new same adds goes =
      record { done = goes.done ++ front; are = adds goes.done goes.are; all = all_of total rest front later old goes same }

  pub stops : (total rest front later : List Pair) (old : List Unit') (fail : CompileFail) → rest ≡ front ++ later
      → ((before : List Pair) → AreUnits rules before old → Rejects rules (before ++ front) fail)
      → Goes total rest old → Rejects rules total fail
  stops total rest front later old fail same tells goes =
      subst (λ xs. Rejects rules xs fail) (all_of total rest front later old goes same)
      (rejects_stays (goes.done ++ front) later fail (tells goes.done goes.are))

  pub ends : (total rest : List Pair) (units : List Unit') → rest ≡ [] → Goes total rest units → AreUnits rules total units
  ends total rest units none goes =
      subst (λ xs. AreUnits rules xs units) (sym (append-nil goes.done) ∙ ap (λ xs. goes.done ++ xs) (sym none) ∙ goes.all) goes.are

  -- declarations

  pub none_yet : (units : List Unit') → units ≡ [] → AreUnits rules [] units
  none_yet units none = subst (λ xs. AreUnits rules [] xs) (sym none) (record { sound = refl; made = tt })

  pub rejects_all : (decls : List DeriveInput) (fail : CompileFail) → Rejects rules (pairs_from 0 decls) fail → Compiles rules decls (Err fail)
  rejects_all decls (fails.Rejected it) is = is
  rejects_all decls fails.NoMemory is = tt
