-- The law of printing for trees of every depth.
use Rattle.std.proofs.Common.{◌≡◌, ℕ, zero, suc, nat_le, Bool, true, false, if◌then◌else◌, List, [], ◌∷◌, map, Some, None, refl, ap, sym, ◌∙◌}
use Rattle.std.proofs.lemmas.Option.{same_Some}
use Rattle.node_expr.specs.declared.expr.Expr.{Expr}
use Rattle.node_expr.specs.declared.generics.TypeParamBound.{TypeParamBound}
use Rattle.node_expr.specs.declared.ty.«Type».{«Type» as Ty}
use Rattle.syn_grammar.specs.Depth.{bound_depth, deepest, expr_depth, type_depth}
use Rattle.syn_grammar.specs.Grammar.{bounds_depth, kept, within}
use Rattle.syn_grammar.specs.Input.{Input, Outcome, Parser, refuse}
use Rattle.print_core.specs.Marks.{Trees}
use Rattle.law_spans.specs.Erased.{erased_bound, erased_expr, erased_type}
use Rattle.law_spans.proofs.Depths.{bound_depth-bare, expr_depth-bare, type_depth-bare}
use Rattle.law_prefix.specs.SameLookahead.{Relation}
use Rattle.law_round_trip.specs.Printed.{Reads, RoundTrips}
use Rattle.law_prefix.proofs.Within.{within-fronts}
use Rattle.law_round_trip.proofs.Blocks.{constant-back}
use Rattle.law_round_trip.proofs.Bounds.{bounds-back}
use Rattle.law_round_trip.proofs.Closures.{closure-back}
use Rattle.law_round_trip.proofs.Postfixes.{postfixed-back}
use Rattle.law_round_trip.proofs.Ranges.{expr_step-back}
use Rattle.law_round_trip.specs.Parts.{AllRoundTrip}
use Rattle.law_round_trip.proofs.Types.{type_step-back}

refuse-back : {A B : Type 0} {bare : A → B} {print : A → Trees} {G F : Relation} → RoundTrips bare print G F refuse
refuse-back = record { of = λ input after found e. absurd cc }

-- what is no deeper than a limit, where the size does not see places
kept-back : {A B : Type 0} {bare : A → B} {print : A → Trees} {G F : Relation} {p : Parser A} (size : A → ℕ) (limit : ℕ) → ((one two : A) → bare one ≡ bare two → size one ≡ size two) → RoundTrips bare print G F p → RoundTrips bare print G F (λ input. kept size limit (p input))
kept-back {A} {B} {bare} {print} {G} {F} {p} size limit blind h = record { of = λ input after found e. by input after found (p input) refl e }
  where
    reads : (input after : Input) (found : A) → nat_le (size found) limit ≡ true → Reads bare (G input.rest) (F after.rest) p (print found) found → Reads bare (G input.rest) (F after.rest) (λ input. kept size limit (p input)) (print found) found
    reads input after found small one = record {
      again = λ tail last f.
          let more = one.again tail last f in
          record { value = more.value; new = more.new; is = rw (more.is, blind more.value found more.same, small) refl; same = more.same };
      first = one.first;
    }

    fits : (input after : Input) (found : A) (pair : A × Input) (b : Bool) → p input ≡ Some pair → nat_le (size pair.0) limit ≡ b → ◌≡◌ {A = Outcome A} (if b then Some pair else None) (Some (found, after))
        → Reads bare (G input.rest) (F after.rest) (λ input. kept size limit (p input)) (print found) found
    fits input after found pair false is small e = absurd cc
    fits input after found pair true is small e =
        let same : pair ≡ (found, after) = same_Some pair (found, after) e in
        reads input after found (ap (λ (pair : A × Input). nat_le (size pair.0) limit) (sym same) ∙ small) (h.of input after found (is ∙ e))

    by : (input after : Input) (found : A) (outcome : Outcome A) → p input ≡ outcome → kept size limit outcome ≡ Some (found, after) → Reads bare (G input.rest) (F after.rest) (λ input. kept size limit (p input)) (print found) found
    by input after found None is e = absurd cc
    by input after found (Some pair) is e = fits input after found pair (nat_le (size pair.0) limit) is refl e

-- depths do not see places

type-blind : (one two : Ty) → erased_type one ≡ erased_type two → type_depth one ≡ type_depth two
type-blind one two same = sym (type_depth-bare one) ∙ ap type_depth same ∙ type_depth-bare two

expr-blind : (one two : Expr) → erased_expr one ≡ erased_expr two → expr_depth one ≡ expr_depth two
expr-blind one two same = sym (expr_depth-bare one) ∙ ap expr_depth same ∙ expr_depth-bare two

bound-depths : (found : List TypeParamBound) → map bound_depth (map erased_bound found) ≡ map bound_depth found
bound-depths [] = refl
bound-depths (it ∷ found) = rw (bound_depth-bare it, bound-depths found) refl

bounds-blind : (one two : List TypeParamBound) → map erased_bound one ≡ map erased_bound two → bounds_depth one ≡ bounds_depth two
bounds-blind one two same = ap (λ depths. suc (deepest depths)) (sym (bound-depths one) ∙ ap (map bound_depth) same ∙ bound-depths two)

pub within-backs : (depth : ℕ) → AllRoundTrip (within depth)
unfolding within
within-backs zero = record { ty = λ allow_plus. refuse-back; expr = λ level. refuse-back; bounds = λ span. refuse-back }
within-backs (suc below) =
    let readers = within below in
    let parts = within-backs below in
    record {
      ty = λ allow_plus. kept-back type_depth (suc below) type-blind (type_step-back readers parts allow_plus);
      expr = λ level. kept-back expr_depth (suc below) expr-blind (expr_step-back readers parts (postfixed-back readers parts) (closure-back readers parts (within-fronts below)) (constant-back readers parts) level);
      bounds = λ span. kept-back bounds_depth (suc below) bounds-blind (bounds-back readers parts true span);
    }
