-- Reading types and expressions of every depth does not see places.
use Rattle.std.proofs.Common.{◌≡◌, ℕ, zero, suc, nat_le, Bool, true, false, if◌then◌else◌, List, [], ◌∷◌, map, Some, None, refl, ap, ◌∙◌}
use Rattle.node_expr.specs.declared.generics.TypeParamBound.{TypeParamBound}
use Rattle.syn_grammar.specs.Depth.{deepest, bound_depth, expr_depth, type_depth}
use Rattle.syn_grammar.specs.Grammar.{kept, bounds_depth, within}
use Rattle.syn_grammar.specs.Input.{Outcome, Parser}
use Rattle.syn_grammar.specs.Paths.{bounds}
use Rattle.law_spans.specs.Erased.{erased_bound}
use Rattle.law_spans.specs.IgnoresSpans.{erased_input, erased_outcome, IgnoresSpans}
use Rattle.law_spans.proofs.Depths.{bound_depth-bare, expr_depth-bare, type_depth-bare}
use Rattle.law_spans.proofs.Operators.{expr_step-blind}
use Rattle.law_spans.proofs.Paths.{AllIgnoreSpans, bounds-blind}
use Rattle.law_spans.proofs.Steps.{refuse-blind}
use Rattle.law_spans.proofs.Types.{type_step-blind}

kept-bare : {A : Type 0} (bare : A → A) (size : A → ℕ) (limit : ℕ) → ((found : A) → size (bare found) ≡ size found) → (outcome : Outcome A) → kept size limit (erased_outcome bare outcome) ≡ erased_outcome bare (kept size limit outcome)
kept-bare bare size limit e None = refl
kept-bare {A} bare size limit e (Some found) = rw (e found.0) (go (nat_le (size found.0) limit))
  where
    go : (fits : Bool) → ◌≡◌ {A = Outcome A} (if fits then Some (bare found.0, erased_input found.1) else None) (erased_outcome bare (if fits then Some found else None))
    go true = refl
    go false = refl

kept-blind : {A : Type 0} {bare : A → A} (size : A → ℕ) (limit : ℕ) {parser : Parser A} → ((found : A) → size (bare found) ≡ size found) → IgnoresSpans bare parser parser
    → IgnoresSpans bare (λ input. kept size limit (parser input)) (λ input. kept size limit (parser input))
kept-blind {bare = bare} size limit {parser} e h = record { at = λ input. ap (kept size limit) (h.at input) ∙ kept-bare bare size limit e (parser input) }

bounds_depth-bare : (found : List TypeParamBound) → bounds_depth (map erased_bound found) ≡ bounds_depth found
bounds_depth-bare found = ap suc (go found)
  where
    go : (found : List TypeParamBound) → deepest (map bound_depth (map erased_bound found)) ≡ deepest (map bound_depth found)
    go [] = refl
    go (bound ∷ bounds) = rw (bound_depth-bare bound, go bounds) refl

pub within-blind : (depth : ℕ) → AllIgnoreSpans (within depth)
unfolding within
within-blind zero = record { ty = λ allow_plus. refuse-blind; expr = λ level. refuse-blind; bounds = refuse-blind }
within-blind (suc below) =
    let parts = within-blind below in
    record {
      ty = λ allow_plus. kept-blind type_depth (suc below) type_depth-bare (type_step-blind (within below) parts allow_plus);
      expr = λ level. kept-blind expr_depth (suc below) expr_depth-bare (expr_step-blind (within below) parts level);
      bounds = kept-blind bounds_depth (suc below) bounds_depth-bare (bounds-blind (within below) parts true);
    }
