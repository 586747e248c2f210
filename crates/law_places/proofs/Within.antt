-- Types and expressions of every depth stand where their tokens do.
use Rattle.std.proofs.Common.{◌≡◌, ℕ, zero, suc, nat_le, Bool, true, false, if◌then◌else◌, Some, None}
use Rattle.syn_grammar.specs.Depth.{expr_depth, type_depth}
use Rattle.syn_grammar.specs.Grammar.{within, kept, bounds_depth}
use Rattle.syn_grammar.specs.Input.{Input, Outcome, Parser}
use Rattle.syn_grammar.specs.Paths.{bounds}
use Rattle.law_places.proofs.Operators.{expr_step-here}
use Rattle.law_places.proofs.Paths.{AllStand, bounds-goes}
use Rattle.law_places.proofs.Steps.{GoesAt, refuse-at}
use Rattle.law_places.proofs.Types.{type_step-here}

kept-found : {A : Type 0} (size : A → ℕ) (limit : ℕ) (outcome : Outcome A) (found : A) (after : Input) → kept size limit outcome ≡ Some (found, after) → outcome ≡ Some (found, after)
kept-found size limit None found after e = absurd cc
kept-found {A} size limit (Some pair) found after e = by (nat_le (size pair.0) limit) e
  where
    by : (b : Bool) → ◌≡◌ {A = Outcome A} (if b then Some pair else None) (Some (found, after)) → ◌≡◌ {A = Outcome A} (Some pair) (Some (found, after))
    by true e = e
    by false e = absurd cc

kept-at : {A : Type 0} {says : A → Input → Type 0} (size : A → ℕ) (limit : ℕ) {parser : Parser A} {input : Input} → GoesAt says parser input → GoesAt says (λ input. kept size limit (parser input)) input
kept-at size limit {parser} {input} h = record { of = λ after found e. h.of after found (kept-found size limit (parser input) found after e) }

pub within-stand : (depth : ℕ) → AllStand (within depth)
unfolding within
within-stand zero = record { ty = λ allow_plus input. refuse-at input; expr = λ level input. refuse-at input; bounds = λ input. refuse-at input }
within-stand (suc below) =
    let parts = within-stand below in
    record {
      ty = λ allow_plus input. kept-at type_depth (suc below) (type_step-here (within below) parts allow_plus input);
      expr = λ level input. kept-at expr_depth (suc below) (expr_step-here (within below) parts level input);
      bounds = λ input. kept-at bounds_depth (suc below) (bounds-goes (within below) parts true input);
    }
