-- The law of printing for arguments of functions, whose patterns are kept as tokens.
use Rattle.std.proofs.Common.{◌≡◌, ◌-◌, ◌≤◌, true, false, [], ◌∷◌, ◌++◌, length, take, Some, refl, arith, ap, subst, ◌∙◌, append_assoc, append-nil, length-append, codes}
use Rattle.std.proofs.lemmas.List.{take_at}
use Rattle.tok_types.specs.declared.span.Span.{Span}
use Rattle.tok_types.specs.declared.tree.TokenStream.{roll-TokenStream}
use Rattle.syn_grammar.specs.Arguments.{fn_arg}
use Rattle.syn_grammar.specs.Input.{Parser, ◌>>=◌, here, state, read_since, first_span, is_end}
use Rattle.syn_grammar.specs.Patterns.{max_pattern}
use Rattle.syn_grammar.specs.Readers.{Readers}
use Rattle.syn_grammar.specs.Token.{is_colon}
use Rattle.print_core.specs.Items.{fn_arg_tokens}
use Rattle.print_core.specs.Marks.{Trees, mark}
use Rattle.law_spans.specs.Erased.{erased_fn_arg}
use Rattle.law_prefix.specs.SameLookahead.{Relation, Any}
use Rattle.law_prefix.specs.ReadsByPrefix.{ReadsByPrefix}
use Rattle.law_round_trip.specs.Follow.{AfterType, NotEnded}
use Rattle.law_round_trip.specs.Parts.{AllRoundTrip}
use Rattle.law_round_trip.specs.Printed.{RoundTrips}
use Rattle.law_round_trip.proofs.Streams.{contents-stream}
use Rattle.law_round_trip.proofs.Functions.{colon-mark}
use Rattle.law_round_trip.proofs.Marks.{mark-length}
use Rattle.law_round_trip.proofs.Patterns.{pattern-front}
use Rattle.law_round_trip.proofs.Steps.{Rest, bind-at, close-rest, then-rest, whole}
use Rattle.law_round_trip.proofs.Takes.{expect-rest}

-- what was read of tokens that were read again is the same
read-take : (read rest : Trees) → take (length (read ++ rest) - length rest) (read ++ rest) ≡ read
read-take read rest = take_at read rest (length (read ++ rest) - length rest) (omega (arith, length-append read rest))

some-left : (read more : Trees) → 1 ≤ length read → is_end (read ++ more) ≡ false
some-left [] more some = absurd (omega (arith, some))
some-left (tree ∷ read) more some = refl

-- a front that is kept as its tokens, and what comes after it
module _ {A B D P Q : Type 0} {Ok : Q → Type 0} {bare : B → D} {print : B → Trees} {wrap : P → Trees → Trees} {Second F : Relation} {front : Parser A} {f : Span → Trees → Parser B} {g : Q × Span → Trees → Parser B} where
  pub kept-rest : ReadsByPrefix Any front → ((start : Span) (kept : Trees) → Rest {Q = Q × Span} (λ q. Ok q.0) bare print (λ place tokens. wrap place (kept ++ tokens)) Second F (f start kept) (λ q. g q kept))
      → Rest Ok bare print wrap NotEnded F (state >>= (λ before. here >>= (λ start. front >>= (λ found. read_since before.rest >>= f start)))) (λ q. state >>= (λ before. here >>= (λ start. front >>= (λ found. read_since before.rest >>= g (q, start)))))
  kept-rest again h = record {
    of = λ input after found e.
        let parts = bind-at (front input) (λ found. read_since input.rest >>= f (first_span input.rest)) found after e in
        let took = again.of input parts.1 parts.0 parts.2 in
        let kept : take (length input.rest - length parts.1.rest) input.rest ≡ took.read = ap (λ trees. take (length trees - length parts.1.rest) trees) took.is ∙ read-take took.read parts.1.rest in
        let two = (h (first_span input.rest) took.read).of parts.1 after found (subst (λ kept. f (first_span input.rest) kept parts.1 ≡ Some (found, after)) kept parts.3) in
        record {
          place = two.place;
          tokens = took.read ++ two.tokens;
          is = two.is;
          again = λ q ok tail last f.
              let start = first_span (took.read ++ (two.tokens ++ tail)) in
              let more = two.again (q, start) ok tail parts.1.last f in
              record { value = more.value; new = more.new; is = rw (append_assoc took.read two.tokens tail, took.again (two.tokens ++ tail) last tt, read-take took.read (two.tokens ++ tail)) more.is; same = more.same };
          first = λ tail f. rw (append_assoc took.read two.tokens tail) (some-left took.read (two.tokens ++ tail) took.some);
        };
  }

module _ (readers : Readers) (parts : AllRoundTrip readers) where
  pub fn_arg-back : RoundTrips erased_fn_arg fn_arg_tokens NotEnded (AfterType true) (fn_arg readers)
  unfolding fn_arg
  fn_arg-back = whole {P = Span} (kept-rest {Second = Any} (pattern-front max_pattern) (λ start kept.
      expect-rest {Second = Any} 1 is_colon (λ place. mark (codes ":") place) (mark-length (codes ":")) (λ place tail. colon-mark tail place)
      (then-rest {Second = AfterType true} (λ place. parts.ty true) (λ it. close-rest start (λ q. q.0.1) (λ span. record { pat = roll-TokenStream (record { trees = kept }); ty = it; span = span }) (λ q span. record { pat = roll-TokenStream (record { trees = kept }); ty = q.1; span = span })
      (λ span. rw (contents-stream kept, append-nil, append_assoc) refl) (λ span other q ok. rw (ok.1) refl))
      (λ rest tail f. f) (λ rest tail f. tt))
      (λ input tail place seen f. tt)))
