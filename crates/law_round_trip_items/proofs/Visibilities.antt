-- The law of printing for visibilities.
use Rattle.std.proofs.Common.{◌≡◌, Bool, true, false, if◌then◌else◌, [], ◌∷◌, ◌++◌, Option, Some, None, refl, ap, append-nil, codes}
use Rattle.std.proofs.lemmas.Option.{same_Some, some_pair_parts}
use Rattle.tok_types.specs.Span.{joined}
use Rattle.tok_types.specs.declared.ident.Ident.{Ident}
use Rattle.tok_types.specs.declared.span.Span.{Span}
use Rattle.tok_types.specs.declared.tree.Delimiter.TheVariants as delimiter
use Rattle.tok_types.specs.declared.tree.TokenTree.TheVariants as tree
use Rattle.node_make.specs.Make.{make_segment}
use Rattle.node_expr.specs.declared.path.Path.{Path}
use Rattle.node_expr.specs.declared.path.PathArguments.TheVariants as arguments
use Rattle.node_core.specs.declared.data.Visibility.{Visibility}
use Rattle.node_core.specs.declared.data.Visibility.TheVariants as made
use Rattle.syn_grammar.specs.declared.word.Word.TheVariants as word
use Rattle.syn_grammar.specs.Grammar.{within, max_depth}
use Rattle.syn_grammar.specs.Input.{Input, Parser, ◌>>=◌, next, start_of, test, skipped}
use Rattle.syn_grammar.specs.Look.{is_there}
use Rattle.syn_grammar.specs.Token.{contents_of, ident_of, is_group}
use Rattle.syn_grammar.specs.Trees.{all}
use Rattle.syn_grammar.specs.Words.{next_word, peek, word_of, other_keywords, named_words}
use Rattle.syn_items.specs.Visibility.{is_scope, path_of_word, public_by, restriction, restriction_in, scope, scope_in, scope_word, visibility}
use Rattle.print_core.specs.declared.path.PathStyle.TheVariants.{Plain}
use Rattle.print_core.specs.Items.{visibility_tokens}
use Rattle.print_core.specs.Marks.{Trees, group, word as printed_word}
use Rattle.print_core.specs.Nodes.{path_tokens}
use Rattle.law_spans.specs.Erased.{erased_path}
use Rattle.law_spans_items.specs.Erased.{erased_visibility}
use Rattle.law_prefix.specs.SameLookahead.{Relation, Any}
use Rattle.law_round_trip.specs.Parts.{AllRoundTrip}
use Rattle.law_round_trip.specs.Printed.{RoundTrips}
use Rattle.law_round_trip.proofs.Follows.{keep-false, type-end}
use Rattle.law_round_trip.proofs.Marks.{next_word-Ident, out-Ident, word-length}
use Rattle.law_round_trip.proofs.Paths.{path-back}
use Rattle.law_round_trip.proofs.Prints.{path_parts-make, print-None, print-segment}
use Rattle.law_round_trip.proofs.Steps.{Gives, Rest, whole, here-rest, pure-rest, then-rest, part}
use Rattle.law_round_trip.proofs.Takes.{AtEnd, contents_of-group, eat_or-rest, group-length, is_group-group, skipped-over, take_as-rest}
use Rattle.law_round_trip_items.specs.Follow.{AfterVisibility, restricts}
use Rattle.law_round_trip.proofs.Wholes.{all-again}
use Rattle.law_round_trip_items.proofs.Makes.{made-rest}
use Rattle.print_core.specs.declared.path.PathStyle.{PathStyle}

-- ---- restrictions

sees-in : (span : Span) (tail : Trees) → next_word (printed_word (codes "in") span ++ tail) ≡ word.In
unfolding printed_word next_word ident_of word_of named_words other_keywords
sees-in span tail = rw (out-Ident (record { text = codes "in"; raw = false; span = span })) refl

sees-pub : (span : Span) (tail : Trees) → next_word (printed_word (codes "pub") span ++ tail) ≡ word.Pub
unfolding printed_word next_word ident_of word_of named_words other_keywords
sees-pub span tail = rw (out-Ident (record { text = codes "pub"; raw = false; span = span })) refl

pub print-word : (it : Ident) (style : PathStyle) → path_tokens style (path_of_word it) ≡ tree.Ident it ∷ []
print-word it style = rw (path_parts-make false (make_segment it arguments.None it.span ∷ []) it.span, print-segment it arguments.None it.span style, print-None style it.span) refl

-- a word that may stand alone is the one that was found
scope-same : (found : Option Ident) (it : Ident) → scope_in found ≡ Some it → (found ≡ Some it) × (scope_in (Some it) ≡ Some it)
scope-same None it is = absurd cc
scope-same (Some name) it is = by name.raw (is_scope name.text) refl refl is
  where
    by : (raw scoped : Bool) → name.raw ≡ raw → is_scope name.text ≡ scoped → (if raw then None else (if scoped then Some name else None)) ≡ Some it → (◌≡◌ {A = Option Ident} (Some name) (Some it)) × (scope_in (Some it) ≡ Some it)
    by true scoped raw_is scoped_is e = absurd cc
    by false false raw_is scoped_is e = absurd cc
    by false true raw_is scoped_is e = (e, rw (← same_Some name it e, raw_is, scoped_is) refl)

scope_word-Ident : (rest tail : Trees) (it : Ident) → scope_word rest ≡ Some it → scope_word (tree.Ident it ∷ tail) ≡ Some it
unfolding scope_word ident_of
scope_word-Ident rest tail it is = rw (out-Ident it) (scope-same (ident_of rest) it is).1

-- the same word comes
scope-seen : (rest tail : Trees) (it : Ident) → scope_word rest ≡ Some it → peek word.In (tree.Ident it ∷ tail) ≡ peek word.In rest
unfolding scope_word next_word
scope-seen rest tail it is = rw (next_word-Ident it tail, (scope-same (ident_of rest) it is).0) refl

scope-back : RoundTrips erased_path (path_tokens Plain) (λ rest tail. peek word.In tail ≡ peek word.In rest) AtEnd scope
scope-back = whole {P = Unit {0}} (take_as-rest {Second = AtEnd} scope_word tree.Ident (λ rest tail it is. scope_word-Ident rest tail it is)
    (λ it. pure-rest tt (path_of_word it) (λ q. path_of_word it) (print-word it Plain) (λ q ok. refl)) (λ input tail it is f. scope-seen input.rest tail it is))

abbrev pub Restriction : Type 0
Restriction = Bool × Path

abbrev pub erased_restriction : Restriction → Restriction
erased_restriction it = (it.0, erased_path it.1)

abbrev restriction_tokens : Span → Restriction → Trees
restriction_tokens span it = (if it.0 then printed_word (codes "in") span else []) ++ path_tokens Plain it.1

module _ (parts : AllRoundTrip (within max_depth)) where
  restriction-back : (span : Span) → RoundTrips erased_restriction (restriction_tokens span) Any AtEnd restriction
  unfolding restriction
  restriction-back span = whole {P = Unit {0}} (eat_or-rest {Yes = Any} {No = λ rest tail. peek word.In tail ≡ peek word.In rest} 1 (peek word.In) (λ place. printed_word (codes "in") span) (λ place. word-length (codes "in") span) (λ place tail. rw (sees-in span tail) refl)
      (then-rest {Second = AtEnd} (λ place. path-back (within max_depth) parts true) (λ it. pure-rest tt (true, it) (λ q. (true, q.1)) (rw append-nil refl) (λ q ok. rw (ok.1) refl))
      (λ rest tail f. rw f ((type-end false rest).0)) (λ rest tail f. tt))
      (made-rest (λ found. (false, found)) (λ it. refl) (λ one other same. rw same refl) (part scope-back))
      (λ input tail place seen f. tt) (λ rest tail seen f. (rw (f, seen) refl, tt)))

  -- a restriction is read from its printing
  restriction_in-group : (rest tail : Trees) (span : Span) (found : Restriction) → restriction_in rest ≡ Some found
      → (again : Restriction) × (restriction_in (group delimiter.Parenthesis (restriction_tokens span found) span ++ tail) ≡ Some again) × (erased_restriction again ≡ erased_restriction found)
  unfolding restriction_in
  restriction_in-group rest tail span found e = by (is_group delimiter.Parenthesis rest) e
    where
      by : (b : Bool) → (if b then all (restriction (start_of (contents_of rest))) else None) ≡ Some found
          → (again : Restriction) × (restriction_in (group delimiter.Parenthesis (restriction_tokens span found) span ++ tail) ≡ Some again) × (erased_restriction again ≡ erased_restriction found)
      by true e =
          let again = all-again (restriction-back span) refl (contents_of rest) found e in
          (again.0, rw (is_group-group delimiter.Parenthesis (restriction_tokens span found) tail span, contents_of-group delimiter.Parenthesis (restriction_tokens span found) tail span) again.1, again.2)
      by false e = absurd cc

  -- ---- visibilities

  abbrev public : Span → Parser Visibility
  public start = test restriction_in >>= public_by start

  -- what stands behind `pub`
  public-rest : (Sight : Relation) (start : Span) → Rest {P = Span} {Q = Unit {0} × Span} (λ q. Unit {0}) erased_visibility visibility_tokens (λ place tokens. printed_word (codes "pub") place ++ tokens) Any (AfterVisibility Sight) (public start) (λ q. public q.1)
  unfolding skipped
  public-rest Sight start = record { of = λ input after found e. by input after found (restriction_in input.rest) refl e }
    where
      PublicGives : Trees → Visibility → Type 0
      PublicGives rest found = Gives {P = Span} {Q = Unit {0} × Span} (λ q. Unit {0}) erased_visibility visibility_tokens (λ place tokens. printed_word (codes "pub") place ++ tokens) (λ tail. Unit {0}) (AfterVisibility Sight rest) (λ q. public q.1) found

      unrestricted : (found : Option Restriction) → is_there found ≡ false → found ≡ None
      unrestricted None h = refl
      unrestricted (Some it) h = absurd cc

      by : (input after : Input) (found : Visibility) (seen : Option Restriction) → restriction_in input.rest ≡ seen → public_by start seen input ≡ Some (found, after) → PublicGives after.rest found
      by input after found None is e =
          let both = some_pair_parts (made.Public start) found input after e in
          rw (← both.0, ← both.1) (record {
            place = start;
            tokens = [];
            is = rw append-nil refl;
            again = λ q ok tail last f. record {
              value = made.Public q.1;
              new = last;
              is = rw (unrestricted (restriction_in tail) (keep-false restricts input.rest tail (rw is refl) f.1.0)) refl;
              same = refl;
            };
            first = λ tail f. tt;
          })
      by input after found (Some it) is e =
          let both = some_pair_parts (made.Restricted it.0 it.1 (joined start (next input).last)) found (next input) after e in
          rw (← both.0) (restricted (joined start (next input).last))
        where
          restricted : (span : Span) → PublicGives after.rest (made.Restricted it.0 it.1 span)
          restricted span = record {
            place = span;
            tokens = group delimiter.Parenthesis (restriction_tokens span it) span;
            is = refl;
            again = λ q ok tail last f.
                let again = restriction_in-group input.rest tail span it is in
                let stands = skipped-over 1 (group delimiter.Parenthesis (restriction_tokens span it) span) tail last (group-length delimiter.Parenthesis (restriction_tokens span it) span) in
                record {
                  value = made.Restricted again.0.0 again.0.1 (joined q.1 stands.0);
                  new = stands.0;
                  is = rw (again.1, stands.1) refl;
                  same = rw (ap (λ (it : Restriction). it.0) again.2, ap (λ (it : Restriction). it.1) again.2) refl;
                };
            first = λ tail f. tt;
          }

  -- what follows is seen in the place of the visibility, where nothing is written
  pub visibility-back : (Sight : Relation) → ((rest tail : Trees) → peek word.Pub tail ≡ true → Sight rest tail) → RoundTrips erased_visibility visibility_tokens Sight (AfterVisibility Sight) visibility
  unfolding visibility
  visibility-back Sight seen = whole (here-rest (λ start. eat_or-rest {Yes = Any} {No = AfterVisibility Sight} 1 (peek word.Pub) (λ place. printed_word (codes "pub") place) (word-length (codes "pub")) (λ place tail. rw (sees-pub place tail) refl)
      (public-rest Sight start)
      (pure-rest start made.Inherited (λ q. made.Inherited) refl (λ q ok. refl))
      (λ input tail place is f. seen input.rest (printed_word (codes "pub") place ++ tail) (rw (sees-pub place tail) refl))
      (λ rest tail is f. (keep-false (peek word.Pub) rest tail is f.0, f.1.1))))
