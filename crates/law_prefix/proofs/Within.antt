-- The law of fronts for types and expressions of every depth.
use Rattle.std.proofs.Common.{◌≡◌, ℕ, zero, suc, Bool, true, false, if◌then◌else◌, List, [], ◌++◌, ◌-◌, length, take, Some, None, nat_le, refl, arith, ap, sym, ◌∙◌, append-nil}
use Rattle.std.proofs.lemmas.List.{append_cancel_right}
use Rattle.std.proofs.lemmas.Option.{some_pair_parts}
use Rattle.syn_grammar.specs.Depth.{expr_depth, type_depth}
use Rattle.syn_grammar.specs.Grammar.{within, kept, bounds_depth}
use Rattle.syn_grammar.specs.Input.{Input, Outcome, Parser, refuse}
use Rattle.syn_grammar.specs.Paths.{bounds}
use Rattle.syn_grammar.specs.Types.{type_step}
use Rattle.syn_grammar.specs.Expressions.{expr_step}
use Rattle.tok_types.specs.declared.span.Span.{Span}
use Rattle.tok_types.specs.declared.tree.TokenTree.{TokenTree}
use Rattle.law_prefix.specs.SameLookahead.{Relation, SameLookahead, stop, stops}
use Rattle.law_prefix.specs.ReadsByPrefix.{at, ReadsByPrefix}
use Rattle.law_prefix.proofs.Steps.{Fronts, take-read, begins-length, refuse-front}
use Rattle.law_prefix.proofs.Loops.{Rule}
use Rattle.law_prefix.proofs.Paths.{AllFronts, bounds-front}
use Rattle.law_prefix.proofs.Types.{type_step-front}
use Rattle.law_prefix.proofs.Operators.{expr_step-front}

kept-parts : {A : Type 0} (size : A → ℕ) (limit : ℕ) (outcome : Outcome A) (found : A) (after : Input) → kept size limit outcome ≡ Some (found, after)
    → (outcome ≡ Some (found, after)) × (nat_le (size found) limit ≡ true)
kept-parts size limit None found after e = absurd cc
kept-parts {A} size limit (Some pair) found after e = by (nat_le (size pair.0) limit) refl e
  where
    by : (b : Bool) → nat_le (size pair.0) limit ≡ b → ◌≡◌ {A = Outcome A} (if b then Some pair else None) (Some (found, after)) → ◌≡◌ {A = Outcome A} (Some pair) (Some (found, after)) × (nat_le (size found) limit ≡ true)
    by true is e = let both = some_pair_parts pair.0 found pair.1 after e in (e, rw both.0 at is)
    by false is e = absurd cc

kept-is : {A : Type 0} (size : A → ℕ) (limit : ℕ) (found : A) (after : Input) → nat_le (size found) limit ≡ true → kept size limit (Some (found, after)) ≡ Some (found, after)
kept-is {A} size limit found after h = ap (λ b. if◌then◌else◌ {A = Outcome A} b (Some (found, after)) None) h

-- what is no deeper than the limit
kept_depth-front : {A : Type 0} (size : A → ℕ) (depth : ℕ) (parser : Parser A) → Rule true parser → Rule true (λ input. kept size depth (parser input))
kept_depth-front size depth parser rule limit = record {
  at = λ input. record {
    of = λ after found e.
        let parts = kept-parts size depth (parser input) found after e in
        let took = ((rule limit).at input).of after found parts.0 in
        record {
          read = took.read;
          is = took.is;
          begins = took.begins;
          again = λ tail last free alike fits.
              let again = took.again tail last free alike fits in
              record { new = again.new; reads = ap (kept size depth) again.reads ∙ kept-is size depth found (at tail again.new) parts.1; kept = again.kept; taken = again.taken };
          first = took.first;
        };
  };
}

pub within-fronts : (depth : ℕ) → AllFronts (within depth)
unfolding within
within-fronts zero = record {
  ty = λ allow_plus limit. refuse-front refuse;
  expr = λ level limit. refuse-front refuse;
  bounds = λ limit. refuse-front refuse;
}
within-fronts (suc below) =
    let parts = within-fronts below in
    record {
      ty = λ allow_plus. kept_depth-front type_depth (suc below) (type_step (within below) allow_plus) (type_step-front (within below) parts allow_plus);
      expr = λ level. kept_depth-front expr_depth (suc below) (expr_step (within below) level) (expr_step-front (within below) parts level);
      bounds = kept_depth-front bounds_depth (suc below) (bounds (within below) true) (bounds-front (within below) parts true);
    }

read-again : {A : Type 0} (parser : Parser A) (one two tail : List TokenTree) (last old new : Span) (found : A) → one ≡ two → parser (at (one ++ tail) last) ≡ Some (found, at tail new) → old ≡ new
    → parser (at (two ++ tail) last) ≡ Some (found, at tail old)
read-again parser one two tail last old new found same e stands = ap (λ read. parser (at (read ++ tail) last)) (sym same) ∙ e ∙ ap (λ last. Some (found, at tail last)) (sym stands)

-- what holds at every number of turns
pub front-of : {A : Type 0} {Start End : Relation} {parser : Parser A} → ((limit : ℕ) → Fronts limit Start End true true parser parser) → ReadsByPrefix End parser
front-of {parser = parser} h = record {
  of = λ input after found e.
      let took = ((h 0).at input).of after found e in
      record {
        read = took.read;
        is = took.is;
        some = begins-length took.read took.begins;
        again = λ tail last same.
            let other = ((h (length (took.read ++ tail))).at input).of after found e in
            let one = append_cancel_right other.read took.read after.rest (sym other.is ∙ took.is) in
            let again = other.again tail last (λ h. absurd cc) same (rw one (omega arith)) in
            read-again parser other.read took.read tail last after.last again.new found one again.reads (again.taken refl);
      };
}

-- ---- what stops

-- A front before a comma, or before nothing, is read from its tokens alone, wherever they stand.
pub front-alone : {A : Type 0} {parser : Parser A} → ReadsByPrefix SameLookahead parser → (input after : Input) (found : A) → parser input ≡ Some (found, after) → stops after.rest ≡ true → (last : Span)
    → parser (at (take (length input.rest - length after.rest) input.rest) last) ≡ Some (found, at [] after.last)
front-alone {parser = parser} front input after found e h last =
    let took = front.of input after found e in
    let read = ap (λ trees. take (length trees - length after.rest) trees) took.is ∙ take-read took.read after.rest in
    ap (λ trees. parser (at trees last)) (read ∙ sym (append-nil took.read)) ∙ took.again [] last (stop after.rest [] h refl)

-- What is read from all of some tokens is read of them before a comma too, wherever they stand.
pub front-before : {A : Type 0} {parser : Parser A} → ReadsByPrefix SameLookahead parser → (input after : Input) (found : A) → parser input ≡ Some (found, after) → after.rest ≡ []
    → (tail : List TokenTree) (last : Span) → stops tail ≡ true → parser (at (input.rest ++ tail) last) ≡ Some (found, at tail after.last)
front-before {parser = parser} front input after found e none tail last h =
    let took = front.of input after found e in
    let read : input.rest ≡ took.read = took.is ∙ ap (λ rest. took.read ++ rest) none ∙ append-nil took.read in
    ap (λ trees. parser (at (trees ++ tail) last)) read ∙ took.again tail last (stop after.rest tail (ap stops none) h)
