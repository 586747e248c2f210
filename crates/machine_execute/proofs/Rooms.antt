-- Declarations below a bound.
use Rattle.std.proofs.Common.{◌≡◌, ◌≢◌, ◌∙◌, ℕ, zero, suc, ◌<◌, ◌≤◌, Bool, true, false, cond, List, Option, Result, refl, ap, sym, subst, arith, nat_eq, eqb-true}
use Rattle.std.proofs.lemmas.Bool.{eqb-false}
use Rattle.error_core.specs.declared.fail.Fail.{Fail}
use Rattle.machine_value.specs.declared.value.Value.{Value as Datum}
use Rattle.codegen_program.specs.declared.program.«Unit».{«Unit» as Unit'}
use Rattle.machine_read.specs.Answers.{AnswersAsked}
use Rattle.machine_read.specs.Held.{Asked}
use Rattle.machine_read.specs.Setting.{Setting}
use Rattle.machine_read.specs.Below.{below}
use Rattle.machine_read.specs.Machine.{earlier_units, unit_reads}
use Rattle.machine_read.specs.Reads.{Before, Reads, no_reads}
use Rattle.machine_execute.specs.Units.{declared_reads}

module _ (body : Before → ℕ → Reads) where
  at_bound : (bound number : ℕ) (b : Bool) → nat_eq number bound ≡ b → below no_reads body (suc bound) number ≡ cond b (body (below no_reads body bound) bound) (below no_reads body bound number)
  at_bound bound number b e = ap (λ b. cond b (body (below no_reads body bound) bound) (below no_reads body bound number)) e

  by_number : (bound number : ℕ) (b : Bool) → nat_eq number bound ≡ b → number < suc bound → (number < bound → below no_reads body bound number ≡ body (below no_reads body number) number)
      → below no_reads body (suc bound) number ≡ body (below no_reads body number) number
  by_number bound number true e lt below_bound =
      at_bound bound number true e ∙ ap (λ n. body (below no_reads body n) n) (sym (eqb-true number bound e))
  by_number bound number false e lt below_bound =
      let other : number ≢ bound = eqb-false number bound e in
      at_bound bound number false e ∙ below_bound (omega (arith, lt, other))

  -- a number below the bound is read by those below it
  pub below_is : (bound number : ℕ) → number < bound → below no_reads body bound number ≡ body (below no_reads body number) number
  below_is zero number lt = let bad : ⊥ = omega (arith, lt) in absurd bad
  below_is (suc bound) number lt = by_number bound number (nat_eq number bound) refl lt (below_is bound number)

  by_test : (bound number : ℕ) (b : Bool) → nat_eq number bound ≡ b → suc bound ≤ number → below no_reads body bound number ≡ no_reads → below no_reads body (suc bound) number ≡ no_reads
  by_test bound number true e le none =
      let same : number ≡ bound = eqb-true number bound e in
      let bad : ⊥ = omega (arith, le, same) in absurd bad
  by_test bound number false e le none = at_bound bound number false e ∙ none

  -- no other number is read
  pub below_none : (bound number : ℕ) → bound ≤ number → below no_reads body bound number ≡ no_reads
  below_none zero number le = refl
  below_none (suc bound) number le =
      let less : bound ≤ number = omega (arith, le) in
      by_test bound number (nat_eq number bound) refl le (below_none bound number less)

module _ (setting : Setting) (units : List Unit') (bound number : ℕ) (asked : Asked) (r : Result (Option Datum) Fail) where
  -- what is read by the units below the bound
  abbrev Answered : Reads → Type 0
  Answered reads = AnswersAsked r reads asked

  -- a number below the bound is answered by its units
  pub answers_below : number < bound → Answered (declared_reads setting units number) → Answered (earlier_units setting units bound number)
  answers_below lt = subst Answered (sym (below_is (unit_reads setting units) bound number lt))

  -- no other number is
  pub answers_none : bound ≤ number → Answered no_reads → Answered (earlier_units setting units bound number)
  answers_none le = subst Answered (sym (below_none (unit_reads setting units) bound number le))
