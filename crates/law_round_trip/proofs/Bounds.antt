-- The law of printing for bounds.
use Rattle.std.proofs.Common.{◌≡◌, Bool, true, false, if◌then◌else◌, [], ◌∷◌, ◌++◌, map, None, refl, append_assoc, append-nil, codes}
use Rattle.tok_types.specs.declared.span.Span.{Span}
use Rattle.tok_types.specs.declared.tree.TokenTree.TheVariants as tree
use Rattle.node_expr.specs.declared.generics.TypeParamBound.TheVariants as bound
use Rattle.syn_grammar.specs.Input.{◌<$>◌, take_as, is_end}
use Rattle.syn_grammar.specs.Look.{is_there}
use Rattle.syn_grammar.specs.Make as make
use Rattle.syn_grammar.specs.Paths.{trait_bound, one_bound, joined_bounds, bounds}
use Rattle.syn_grammar.specs.Readers.{Readers}
use Rattle.syn_grammar.specs.Token.{is_plus, is_question, lifetime_of}
use Rattle.print_core.specs.Marks.{Trees, mark, plus, word as printed_word}
use Rattle.print_core.specs.Nodes.{bound_tokens}
use Rattle.law_spans.specs.Erased.{erased_bound}
use Rattle.law_spans.proofs.Made.{bare_bound-Trait, bare_trait_bound-make}
use Rattle.law_prefix.specs.SameLookahead.{Relation}
use Rattle.law_round_trip.specs.Follow.{AfterPath, AfterType, BeginsPath, NotEnded}
use Rattle.law_round_trip.specs.Printed.{RoundTrips}
use Rattle.law_round_trip.proofs.Arguments.{binder-printed}
use Rattle.law_round_trip.proofs.Follows.{keep-false, path-seen, path_before-plus, type-end}
use Rattle.law_round_trip.proofs.Joints.{joined-printed}
use Rattle.law_round_trip.proofs.Marks.{mark_of-mark, mark-length, lifetime_of-Lifetime, lifetime_of-mark, lifetime_of-word, mark_of-word}
use Rattle.law_round_trip.specs.Parts.{AllRoundTrip, bounds_tokens}
use Rattle.law_round_trip.proofs.Paths.{path-back}
use Rattle.law_round_trip.proofs.Prints.{print-bound_lifetime, print-trait_bound}
use Rattle.law_round_trip.proofs.Steps.{Free, Rest, hole, whole, pure-rest, here-rest, then-rest, exact-rest, close-rest, shown-rest, test-rest}
use Rattle.law_round_trip.proofs.Takes.{eat-rest, take_as-rest}

-- what begins a bound that is no lifetime, behind its `?`
abbrev pub BoundSight : Trees → Type 0
BoundSight trees = (is_end trees ≡ false) × ((is_question trees ≡ false) × (lifetime_of trees ≡ None))

for-sight : (span : Span) (tail : Trees) → BoundSight (printed_word (codes "for") span ++ tail)
unfolding printed_word
for-sight span tail = (refl, (rw (mark_of-word (codes "for") span tail) refl, lifetime_of-word (codes "for") span tail))

-- a lifetime or none
abbrev pub Living : Bool → Relation
Living b rest tail = (is_end tail ≡ false) × (is_there (lifetime_of tail) ≡ b)

question-living : (rest tail : Trees) (span : Span) → Living false rest (mark (codes "?") span ++ tail)
unfolding mark
question-living rest tail span = (refl, rw (lifetime_of-mark 63 [] span tail) refl)

module _ (readers : Readers) (parts : AllRoundTrip readers) where
  trait_bound-back : RoundTrips erased_bound bound_tokens (Living false) (AfterPath true) (trait_bound readers)
  unfolding trait_bound
  trait_bound-back = whole (here-rest (λ start. eat-rest {Second = λ b rest tail. BoundSight tail} 1 is_question (λ place. mark (codes "?") place) (mark-length (codes "?")) (λ place tail. rw (mark_of-mark 63 [] place tail) refl) (λ maybe.
      exact-rest {Second = BeginsPath true} (λ place. binder-printed BoundSight place (for-sight place)) (λ lifetimes.
      then-rest {Second = AfterPath true} (λ place. path-back readers parts true) (λ found. close-rest start (λ q. q.0.1) (make.trait_bound maybe lifetimes found) (λ q. make.trait_bound maybe lifetimes q.1)
      (λ span. rw (print-trait_bound, append-nil, append_assoc) refl) (λ span other q ok. rw (bare_bound-Trait, bare_bound-Trait, bare_trait_bound-make, bare_trait_bound-make, ok.1) refl))
      (λ rest tail f. f) (λ rest tail f. f))
      (λ rest tail f. let seen = path-seen tail f.0 in (seen.bound, (seen.some, (seen.question, seen.lifetime)))) (λ rest tail f. f))
      (λ input tail place seen f. question-living input.rest tail place)
      (λ rest tail seen f. (f.1.0, (f.0, rw (f.1.1) refl)))))

  one_by : (b : Bool) → Rest {P = Unit {0}} {Q = Unit {0}} Free erased_bound bound_tokens hole (Living b) (AfterPath true) (if b then bound.Lifetime <$> take_as lifetime_of else trait_bound readers) (λ q. if b then bound.Lifetime <$> take_as lifetime_of else trait_bound readers)
  one_by true = take_as-rest {Second = AfterPath true} lifetime_of tree.Lifetime (λ rest tail it is. lifetime_of-Lifetime it tail)
      (λ it. pure-rest tt (bound.Lifetime it) (λ q. bound.Lifetime it) (rw (print-bound_lifetime) refl) (λ q ok. refl)) (λ input tail it is f. (refl, rw (lifetime_of-Lifetime it tail) refl))
  one_by false = shown-rest tt (λ it. refl) trait_bound-back

  pub one_bound-back : RoundTrips erased_bound bound_tokens NotEnded (AfterPath true) (one_bound readers)
  unfolding one_bound
  one_bound-back = whole (test-rest {by = Living} (λ trees. is_there (lifetime_of trees)) one_by (λ b rest tail seen f. (f.1, f.0)))

  pub bounds-back : (allow_plus : Bool) (span : Span) → RoundTrips (map erased_bound) (bounds_tokens span) NotEnded (AfterType allow_plus) (bounds readers allow_plus)
  unfolding bounds joined_bounds
  bounds-back true span = joined-printed erased_bound bound_tokens 1 is_plus (plus span) (mark-length (codes "+") span) (λ tail. rw (mark_of-mark 43 [] span tail) refl) (one_bound readers) (one_bound readers) (AfterType true)
      one_bound-back (λ rest tail f. f) (λ rest. (type-end false rest).0) (λ rest next tail seen f. path_before-plus rest tail span) (λ rest tail seen f. (keep-false is_plus rest tail seen f.1, f.0))
  bounds-back false span = whole {P = Unit {0}} (then-rest {Second = AfterType false} (λ place. one_bound-back) (λ it. pure-rest tt (it ∷ []) (λ q. q.1 ∷ []) refl (λ q ok. rw (ok.1) refl)) (λ rest tail f. f.0) (λ rest tail f. f))
