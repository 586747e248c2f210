-- A larger limit reads as much, and what is read is no deeper than its limit.
use Rattle.std.proofs.Common.{◌≡◌, ◌≤◌, ℕ, zero, suc, nat_le, Bool, true, false, if◌then◌else◌, Some, None, refl, arith}
use Rattle.std.proofs.lemmas.Grind.{common_steps}
use Rattle.syn_grammar.specs.Depth.{expr_depth, type_depth}
use Rattle.syn_grammar.specs.Grammar.{kept, bounds_depth, within}
use Rattle.syn_grammar.specs.Input.{Input, Outcome, Parser, refuse}
use Rattle.law_limit.specs.IsExtendedBy.{Agrees, IsExtendedBy}
use Rattle.law_limit.proofs.Operators.{expr_step-more}
use Rattle.law_limit.proofs.Paths.{AllExtended, bounds-more}
use Rattle.law_limit.proofs.Types.{type_step-more}

-- what is kept was found, and fits
kept-found : {A : Type 0} (size : A → ℕ) (limit : ℕ) (outcome : Outcome A) (found : A) (rest : Input) → kept size limit outcome ≡ Some (found, rest) → size found ≤ limit
kept-found size limit None found rest is = absurd (cc)
kept-found size limit (Some read) found rest is = grind (arith, common_steps)

fits-more : {A : Type 0} (size : A → ℕ) (limit larger : ℕ) (read : A × Input) → limit ≤ larger → Agrees (kept size limit (Some read)) (kept size larger (Some read))
fits-more size limit larger read more = go (nat_le (size read.0) limit) refl
  where
    go : (fits : Bool) → nat_le (size read.0) limit ≡ fits → Agrees (if fits then Some read else None) (kept size larger (Some read))
    go false is = tt
    go true is = let small : size read.0 ≤ limit = grind (arith, common_steps) in let also : size read.0 ≤ larger = omega (arith, small, more) in grind (arith, common_steps)

kept-agrees : {A : Type 0} (size : A → ℕ) (limit larger : ℕ) (outcome also : Outcome A) → limit ≤ larger → Agrees outcome also → Agrees (kept size limit outcome) (kept size larger also)
kept-agrees size limit larger None also more a = tt
kept-agrees size limit larger (Some read) also more a = rw a (fits-more size limit larger read more)

kept-more : {A : Type 0} (size : A → ℕ) (limit larger : ℕ) {parser other : Parser A} → limit ≤ larger → IsExtendedBy parser other
    → IsExtendedBy (λ input. kept size limit (parser input)) (λ input. kept size larger (other input))
kept-more size limit larger {parser} {other} more h = record { at = λ input. kept-agrees size limit larger (parser input) (other input) more (h.at input) }

nothing-more : {A : Type 0} {other : Parser A} → IsExtendedBy refuse other
nothing-more = record { at = λ input. tt }

pub within-more : (limit larger : ℕ) → limit ≤ larger → AllExtended (within limit) (within larger)
unfolding within
within-more zero larger more = record { ty = λ allow_plus. nothing-more; expr = λ level. nothing-more; bounds = nothing-more }
within-more (suc below) zero more = absurd (omega (arith, more))
within-more (suc below) (suc others) more =
    let parts = within-more below others (omega (arith, more)) in
    record {
      ty = λ allow_plus. kept-more type_depth (suc below) (suc others) more (type_step-more (within below) (within others) parts allow_plus);
      expr = λ level. kept-more expr_depth (suc below) (suc others) more (expr_step-more (within below) (within others) parts level);
      bounds = kept-more bounds_depth (suc below) (suc others) more (bounds-more (within below) (within others) parts true);
    }

module _ (input rest : Input) where
  pub ty-fits : (limit : ℕ) (allow_plus : Bool) (ty : _) → (within limit).ty allow_plus input ≡ Some (ty, rest) → type_depth ty ≤ limit
  unfolding within
  ty-fits zero allow_plus ty is = absurd (cc)
  ty-fits (suc below) allow_plus ty is = kept-found type_depth (suc below) _ ty rest is

  pub expr-fits : (limit level : ℕ) (expr : _) → (within limit).expr level input ≡ Some (expr, rest) → expr_depth expr ≤ limit
  unfolding within
  expr-fits zero level expr is = absurd (cc)
  expr-fits (suc below) level expr is = kept-found expr_depth (suc below) _ expr rest is

  pub bounds-fits : (limit : ℕ) (bounds : _) → (within limit).bounds input ≡ Some (bounds, rest) → bounds_depth bounds ≤ limit
  unfolding within
  bounds-fits zero bounds is = absurd (cc)
  bounds-fits (suc below) bounds is = kept-found bounds_depth (suc below) _ bounds rest is
