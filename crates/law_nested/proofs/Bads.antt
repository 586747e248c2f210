-- The tokens of a bad value, before a comma or the end again, and alone.
use Rattle.std.proofs.Common.{◌≡◌, ℕ, zero, suc, ◌≤◌, Bool, true, false, if◌then◌else◌, [], ◌∷◌, ◌++◌, length, Option, Some, None, option_map, inl, inr, refl, arith, ap, ◌∙◌}
use Rattle.std.proofs.Math.Bool.{and-false}
use Rattle.std.proofs.lemmas.Bool.{cases_lt}
use Rattle.std.specs.Option.{option_or}
use Rattle.tok_types.specs.declared.tree.TokenTree.{TokenTree}
use Rattle.syn_grammar.specs.Token.{is_comma, is_group, is_mark, mark_of}
use Rattle.meta_nested.specs.Nested.{is_attribute}
use Rattle.meta_nested.specs.Values.{before_comma, least, run_of, shortest_run, value_in}
use Rattle.meta_nested.proofs.Commas.{before_comma-stop}
use Rattle.meta_nested.proofs.Least.{least-none}
use Rattle.print_core.specs.Marks.{Trees}
use Rattle.law_prefix.specs.SameLookahead.{stops}
use Rattle.law_nested.proofs.Stops.{Ended}

-- they are up to the next comma what they were
pub before_comma-again : (trees tail : Trees) → stops tail ≡ true → before_comma (before_comma trees ++ tail) ≡ before_comma trees
unfolding mark_of
before_comma-again [] tail stop = before_comma-stop tail stop
before_comma-again (tree ∷ trees) tail stop = by (is_comma (tree ∷ trees)) refl (before_comma-again trees tail stop)
  where
    Again : Trees → Type 0
    Again tokens = before_comma (tokens ++ tail) ≡ tokens

    by : (b : Bool) → is_comma (tree ∷ trees) ≡ b → Again (before_comma trees) → Again (if b then [] else tree ∷ before_comma trees)
    by true is more = before_comma-stop tail stop
    by false is more = rw (is, more) refl

-- and no attribute where they were none
pub attribute-again : (trees tail : Trees) → Ended tail → is_attribute trees ≡ false → is_attribute (before_comma trees ++ tail) ≡ false
unfolding mark_of is_group
attribute-again [] tail ended none = rw (ended.hash) refl
attribute-again (tree ∷ trees) tail ended none = by (is_comma (tree ∷ trees)) trees none
  where
    last : (b : Bool) (second : TokenTree) (more : Trees) → is_attribute (tree ∷ second ∷ more) ≡ false → is_attribute (tree ∷ ((if b then [] else second ∷ before_comma more) ++ tail)) ≡ false
    last true second more none = rw (ended.bracket) (and-false (is_mark 35 (tree ∷ second ∷ more)))
    last false second more none = none

    by : (b : Bool) (trees : Trees) → is_attribute (tree ∷ trees) ≡ false → is_attribute ((if b then [] else tree ∷ before_comma trees) ++ tail) ≡ false
    by true trees none = rw (ended.hash) refl
    by false [] none = rw (ended.bracket) (and-false (is_mark 35 (tree ∷ [])))
    by false (second ∷ more) none = last (is_comma (second ∷ more)) second more none

-- ---- alone

map-none : {A B : Type 0} (f : A → B) (of : Option A) → option_map f of ≡ None → of ≡ None
map-none f None e = refl
map-none f (Some it) e = absurd cc

or-none : {A : Type 0} (one other : Option A) → option_or one other ≡ None → (one ≡ None) × (other ≡ None)
or-none None other e = (refl, e)
or-none (Some it) other e = absurd cc

-- where the least number is none, no number has anything
least-no : {A : Type 0} (of : ℕ → Option A) (limit : ℕ) → least of limit ≡ None → (m : ℕ) → m ≤ limit → of m ≡ None
least-no {A} of zero e zero within = map-none {B = A × ℕ} (λ found. (found, 0)) (of 0) e
least-no of zero e (suc m) within = absurd (omega (arith, within))
least-no {A} of (suc limit) e m within =
    let parts = or-none (least of limit) (option_map {U = A × ℕ} (λ found. (found, suc limit)) (of (suc limit))) e in
    elim (cases_lt limit m) [ inl above ↦ last parts.1 (omega arith) | inr below ↦ least-no of limit parts.0 m below ]
  where
    last : option_map {U = A × ℕ} (λ found. (found, suc limit)) (of (suc limit)) ≡ None → m ≡ suc limit → of m ≡ None
    last none same = ap of same ∙ map-none {B = A × ℕ} (λ found. (found, suc limit)) (of (suc limit)) none

before_comma-length : (trees : Trees) → length (before_comma trees) ≤ length trees
before_comma-length [] = omega arith
before_comma-length (tree ∷ trees) = by (is_comma (tree ∷ trees)) (before_comma-length trees)
  where
    by : (b : Bool) → length (before_comma trees) ≤ length trees → length (if b then [] else tree ∷ before_comma trees) ≤ length (tree ∷ trees)
    by true shorter = omega arith
    by false shorter = omega (arith, shorter)

-- the runs of what stands before the comma are runs of the tokens
run-alone : {A : Type 0} (reader : Trees → Option A) (trees : Trees) (count : ℕ) → count ≤ length (before_comma trees) → run_of reader trees count ≡ None → run_of reader (before_comma trees) count ≡ None
unfolding mark_of
run-alone reader [] count within none = none
run-alone {A} reader (tree ∷ trees) count within none = by (is_comma (tree ∷ trees)) refl count within none (run-alone behind trees)
  where
    behind : Trees → Option A
    behind more = reader (tree ∷ more)

    by : (b : Bool) → is_comma (tree ∷ trees) ≡ b → (count : ℕ) → count ≤ length (if b then [] else tree ∷ before_comma trees) → run_of reader (tree ∷ trees) count ≡ None
        → ((count : ℕ) → count ≤ length (before_comma trees) → run_of behind trees count ≡ None → run_of behind (before_comma trees) count ≡ None)
        → run_of reader (if b then [] else tree ∷ before_comma trees) count ≡ None
    by true is zero within none later = rw is at none
    by true is (suc count) within none later = absurd (omega (arith, within))
    by false is zero within none later = rw is refl
    by false is (suc count) within none later = later count (omega (arith, within)) none

-- they are no value
pub bad-alone : (trees : Trees) → shortest_run trees ≡ None → shortest_run (before_comma trees) ≡ None
bad-alone trees none =
    least-none (run_of value_in (before_comma trees)) (length (before_comma trees))
    (λ count within. run-alone value_in trees count within (least-no (run_of value_in trees) (length trees) none count (omega (arith, within, before_comma-length trees))))
