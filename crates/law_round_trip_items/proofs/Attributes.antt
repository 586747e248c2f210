-- The law of printing for attributes.
use Rattle.std.proofs.Common.{◌≡◌, ℕ, Bool, true, false, if◌then◌else◌, [], ◌∷◌, ◌++◌, length, map, Option, Some, None, refl, rules, ap, subst, append-nil, codes, append_assoc}
use Rattle.std.proofs.lemmas.Bool.{and_parts, eqb-true}
use Rattle.std.proofs.lemmas.Option.{some_pair_parts}
use Rattle.tok_types.specs.Span.{joined as joined_spans}
use Rattle.tok_types.specs.declared.span.Span.{Span}
use Rattle.tok_types.specs.declared.ident.Ident.{Ident}
use Rattle.tok_types.specs.declared.tree.Delimiter.{Delimiter}
use Rattle.tok_types.specs.declared.tree.Delimiter.TheVariants as delimiter
use Rattle.tok_types.specs.declared.tree.TokenTree.{the_lemmas}
use Rattle.tok_types.specs.declared.tree.TokenTree.TheVariants as tree
use Rattle.node_make.specs.Make.{make_path, make_segment}
use Rattle.node_expr.specs.declared.path.Path.{Path}
use Rattle.node_expr.specs.declared.path.PathArguments.TheVariants as arguments
use Rattle.node_core.specs.declared.attr.Meta.{Meta}
use Rattle.node_core.specs.declared.attr.Meta.TheVariants as made
use Rattle.syn_grammar.specs.Grammar.{within, max_depth}
use Rattle.syn_grammar.specs.Input.{Input, Parser, ◌>>=◌, pure, refuse, upto, at_end, skipped, is_end, joined_by, eat}
use Rattle.syn_grammar.specs.Token.{contents_of, ident_of, is_colons, is_equals, is_joint, is_mark, is_pair, literal_of, mark_of}
use Rattle.syn_grammar.specs.Words.{next_word}
use Rattle.tok_types.specs.Stream.{stream_of}
use Rattle.syn_items.specs.Attributes.{attribute, attributes, delimiter_of, meta, meta_by, meta_list, meta_path, meta_segment, name_value, value_of}
use Rattle.syn_items.specs.Lists.{take_all}
use Rattle.print_core.specs.declared.path.PathStyle.TheVariants.{Plain}
use Rattle.print_core.specs.Items.{attribute_tokens, attributes_tokens, meta_tokens}
use Rattle.print_core.specs.Marks.{Trees, colons, group, joined, mark}
use Rattle.print_core.specs.Nodes.{expr_tokens, path_tokens, segment_tokens}
use Rattle.law_spans.specs.Erased.{erased_path, erased_segment}
use Rattle.law_spans.proofs.Made.{bare_path-make, bare_segment-make}
use Rattle.law_spans_items.specs.Erased.{erased_attribute, erased_meta}
use Rattle.law_prefix.specs.SameLookahead.{Relation, Any}
use Rattle.law_prefix.specs.ReadsByPrefix.{at}
use Rattle.law_round_trip.specs.Follow.{Keep, NotEnded}
use Rattle.law_round_trip.specs.Parts.{AllRoundTrip}
use Rattle.law_round_trip.specs.Printed.{Again, RoundTrips}
use Rattle.law_round_trip.proofs.Streams.{contents-stream}
use Rattle.law_round_trip.proofs.Follows.{keep-false, never, no-colons}
use Rattle.law_round_trip.proofs.Joints.{joined-printed}
use Rattle.law_round_trip.proofs.Marks.{is_colons-colons, literal_of-mark, mark-length, mark_of-mark, next_word-mark, out-Ident, out-Punct}
use Rattle.law_round_trip.proofs.Paths.{styled}
use Rattle.law_round_trip.proofs.Prints.{path_parts-make, print-None, print-segment}
use Rattle.law_round_trip.proofs.Starts.{mark-seen}
use Rattle.law_round_trip.proofs.Steps.{Gives, Rest, whole, close-rest, here-rest, pure-rest, shown-rest, test-rest, then-rest}
use Rattle.law_round_trip.proofs.Takes.{AtEnd, contents_of-group, eat-rest, expect-rest, group-length, inside-rest, skip-rest, skipped-over, take_as-rest}
use Rattle.law_round_trip_items.specs.Follow.{AfterAttributes, StartsPath}
use Rattle.law_round_trip_items.proofs.Values.{ValueAgain, value-again}
use Rattle.law_round_trip_items.proofs.Whiles.{while-printed}

-- ---- paths of any words

-- a word begins it
abbrev BeginsWord : Relation
BeginsWord rest tail = StartsPath rest tail × (is_colons tail ≡ false)

pub ident_of-Ident : (it : Ident) (tail : Trees) → ident_of (tree.Ident it ∷ tail) ≡ Some it
unfolding ident_of
ident_of-Ident it tail = rw (out-Ident it) refl

word-begins : (it : Ident) (rest tail : Trees) → ident_of rest ≡ Some it → BeginsWord rest (tree.Ident it ∷ tail)
unfolding is_pair is_joint mark_of literal_of ident_of next_word
word-begins it rest tail is = (record { some = refl; literal = rw (out-Ident it) refl; minus = rw (out-Ident it) refl; truth = rw (out-Ident it, is) refl }, rw (out-Ident it) refl)

colons-begin : (rest tail : Trees) (span : Span) → is_colons rest ≡ true → StartsPath rest (colons span ++ tail)
unfolding mark is_pair
colons-begin rest tail span h =
    let pair = and_parts (is_joint rest) _ h in
    let colon = eqb-true (mark_of rest) 58 (and_parts (is_mark 58 rest) _ pair.1).0 in
    record {
      some = refl;
      literal = literal_of-mark 58 (58 ∷ []) span tail;
      minus = rw (mark_of-mark 58 (58 ∷ []) span tail) refl;
      truth = rw (next_word-mark 58 (58 ∷ []) span tail, (mark-seen 57 rest colon).1) refl;
    }

meta_segment-back : RoundTrips erased_segment (λ it. segment_tokens it Plain) BeginsWord Any meta_segment
unfolding meta_segment
meta_segment-back = whole (here-rest (λ start. take_as-rest {Second = Any} ident_of tree.Ident (λ rest tail it is. ident_of-Ident it tail)
    (λ name. close-rest start (λ q. q.1) (make_segment name arguments.None) (λ q. make_segment name arguments.None)
    (λ span. rw (print-segment name arguments.None span Plain, print-None Plain span) refl) (λ span other q ok. rw (bare_segment-make, bare_segment-make) refl))
    (λ input tail name is f. word-begins name input.rest tail is)))

meta_segments-back : (span : Span) → RoundTrips (map erased_segment) (λ items. joined (colons span) (map (λ it. segment_tokens it Plain) items)) BeginsWord (Keep is_colons) (joined_by (eat 2 is_colons) meta_segment)
meta_segments-back span = joined-printed erased_segment (λ it. segment_tokens it Plain) 2 is_colons (colons span) (mark-length (codes "::") span) (λ tail. is_colons-colons tail span) meta_segment meta_segment (Keep is_colons)
    meta_segment-back (λ rest tail f. f.0.some) (λ rest. tt) (λ rest next tail seen f. tt) (λ rest tail seen f. (keep-false is_colons rest tail seen f, tt))

pub meta_path-back : RoundTrips erased_path (path_tokens Plain) StartsPath (Keep is_colons) meta_path
unfolding meta_path
meta_path-back = whole (here-rest (λ start. eat-rest {Second = λ b. BeginsWord} 2 is_colons (λ place. colons place) (mark-length (codes "::")) (λ place tail. is_colons-colons tail place) (λ leading.
    then-rest {Second = Keep is_colons} (λ place. meta_segments-back place) (λ found. close-rest start (λ q. q.0.1) (make_path leading found) (λ q. make_path leading q.1)
    (λ span. rw (path_parts-make leading found span, append-nil, styled found Plain) refl) (λ span other q ok. rw (bare_path-make, bare_path-make, ok.1) refl))
    (λ rest tail f. f) (λ rest tail f. f))
    (λ input tail place seen f. colons-begin input.rest tail place seen)
    (λ rest tail seen f. (f.1, f.0))))

-- ---- what stands behind the path

-- the group that comes, or none, and no `::`
abbrev pub Grouped : Option Delimiter → Relation
Grouped grouped rest tail = (delimiter_of tail ≡ grouped) × (is_colons tail ≡ false)

pub group-grouped : (between : Delimiter) (inner rest tail : Trees) (span : Span) → Grouped (Some between) rest (group between inner span ++ tail)
unfolding delimiter_of group is_pair is_joint
group-grouped between inner rest tail span = (search (rules, the_lemmas), search (rules, the_lemmas))

pub mark-grouped : (ch : ℕ) (rest tail : Trees) (span : Span) → Grouped None rest (mark (ch ∷ []) span ++ tail)
unfolding delimiter_of mark is_pair is_joint
mark-grouped ch rest tail span = (rw (out-Punct (record { ch = ch; joint = false; span = span })) refl, rw (out-Punct (record { ch = ch; joint = false; span = span })) refl)

none-grouped : (rest tail : Trees) → tail ≡ [] → Grouped None rest tail
unfolding delimiter_of
none-grouped rest tail is = rw is (refl, no-colons)

-- no token comes, or `=`
abbrev Done : Bool → Relation
Done true = AtEnd
Done false = λ rest tail. (is_end tail ≡ false) × Grouped None rest tail

equals-done : (rest tail : Trees) (span : Span) → Done false rest (mark (codes "=") span ++ tail)
unfolding mark
equals-done rest tail span = (refl, mark-grouped 61 rest tail span)

-- 35 is the `#`
hash-mark : (tail : Trees) (span : Span) → is_mark 35 (mark (codes "#") span ++ tail) ≡ true
hash-mark tail span = rw (mark_of-mark 35 [] span tail) refl

hash-some : (tail : Trees) (span : Span) → is_end (mark (codes "#") span ++ tail) ≡ false
unfolding mark
hash-some tail span = refl

no-hash : is_mark 35 [] ≡ false
unfolding mark_of
no-hash = refl

module _ (parts : AllRoundTrip (within max_depth)) where
  module _ (start : Span) (path : Path) where
    -- what was bound: where the item starts, and the path
    abbrev Env : Type 0
    Env = (Unit {0} × Span) × Path

    abbrev Bound : Env → Type 0
    Bound q = Unit {0} × (erased_path q.1 ≡ erased_path path)

    abbrev MetaRest : Relation → Parser Meta → (Env → Parser Meta) → Type 0
    MetaRest Begins parser others = Rest {P = Span} {Q = Env} Bound erased_meta meta_tokens (λ place tokens. path_tokens Plain path ++ tokens) Begins AtEnd parser others

    meta_list-rest : (between : Delimiter) → MetaRest (Grouped (Some between)) (meta_list start path between) (λ q. meta_list q.0.1 q.1 between)
    unfolding meta_list
    meta_list-rest between = test-rest {by = λ tokens rest tail. (contents_of tail ≡ tokens) × Grouped (Some between) rest tail} contents_of
        (λ tokens. skip-rest {Second = AtEnd} (λ place. group between tokens place) (λ place. group-length between tokens place)
        (close-rest start (λ q. q.0.1) (λ span. made.List (record { path = path; delimiter = between; tokens = stream_of tokens; span = span })) (λ q span. made.List (record { path = q.1; delimiter = between; tokens = stream_of tokens; span = span }))
        (λ span. rw (contents-stream tokens, append-nil) refl) (λ span other q ok. rw (ok.1) refl))
        (λ input tail place f. (contents_of-group between tokens tail place, group-grouped between tokens input.rest tail place)))
        (λ tokens rest tail is f. f)

    abbrev value_rest : Span → Span → Path → Parser Meta
    value_rest start eq_span path = take_all >>= (λ value. upto start >>= (λ span. pure (made.NameValue (record { path = path; eq_span = eq_span; value = value_of value; span = span }))))

    -- the value, which takes what is left
    value-rest : (eq_span : Span)
        → Rest {P = Span} {Q = Env × Span} (λ q. Bound q.0) erased_meta meta_tokens (λ place tokens. path_tokens Plain path ++ (mark (codes "=") place ++ tokens)) NotEnded AtEnd
        (at_end >>= (λ none. if none then refuse else value_rest start eq_span path)) (λ q. at_end >>= (λ none. if none then refuse else value_rest q.0.0.1 q.1 q.0.1))
    value-rest eq_span = record { of = λ input after found e. by input after found (is_end input.rest) refl e }
      where
        by : (input after : Input) (found : Meta) (none : Bool) → is_end input.rest ≡ none → (if none then refuse else value_rest start eq_span path) input ≡ Some (found, after)
            → Gives {P = Span} {Q = Env × Span} (λ q. Bound q.0) erased_meta meta_tokens (λ place tokens. path_tokens Plain path ++ (mark (codes "=") place ++ tokens)) (NotEnded input.rest) (AtEnd after.rest) (λ q. at_end >>= (λ none. if none then refuse else value_rest q.0.0.1 q.1 q.0.1)) found
        by input after found true is e = absurd cc
        by input after found false is e =
            let both = some_pair_parts (made.NameValue (record { path = path; eq_span = eq_span; value = value_of input.rest; span = joined_spans start end.last })) found end after e in
            subst (λ found. Gives {P = Span} {Q = Env × Span} (λ q. Bound q.0) erased_meta meta_tokens (λ place tokens. path_tokens Plain path ++ (mark (codes "=") place ++ tokens)) (NotEnded input.rest) (AtEnd after.rest) (λ q. at_end >>= (λ none. if none then refuse else value_rest q.0.0.1 q.1 q.0.1)) found) both.0 (record {
              place = joined_spans start end.last;
              tokens = tokens;
              is = append_assoc (path_tokens Plain path) (mark (codes "=") (joined_spans start end.last)) tokens;
              again = λ q ok tail last f. rw f (read q ok last);
              first = λ tail f. rw (f, append-nil) (one.some);
            })
          where
            end : Input
            end = skipped (length input.rest) input

            one : ValueAgain (value_of input.rest)
            one = value-again parts input.rest is

            tokens : Trees
            tokens = expr_tokens (value_of input.rest)

            read : (q : Env × Span) → Bound q.0 → (last : Span) → Again erased_meta (at_end >>= (λ none. if none then refuse else value_rest q.0.0.1 q.1 q.0.1)) (at (tokens ++ []) last) [] (made.NameValue (record { path = path; eq_span = eq_span; value = value_of input.rest; span = joined_spans start end.last }))
            read q ok last =
                let stands = skipped-over (length tokens) tokens [] last refl in
                let place = rw append-nil at stands.1 in
                record {
                  value = made.NameValue (record { path = q.0.1; eq_span = q.1; value = value_of tokens; span = joined_spans q.0.0.1 stands.0 });
                  new = stands.0;
                  is = rw (append-nil tokens, one.some, place) refl;
                  same = rw (ok.1, one.same) refl;
                }

    name_value-rest : MetaRest (Done false) (name_value start path) (λ q. name_value q.0.1 q.1)
    unfolding name_value
    name_value-rest = here-rest (λ eq_span. expect-rest {Second = NotEnded} 1 is_equals (λ place. mark (codes "=") place) (mark-length (codes "=")) (λ place tail. rw (mark_of-mark 61 [] place tail) refl)
        (value-rest eq_span)
        (λ input tail place seen f. equals-done input.rest tail place))

    done_by : (done : Bool) → MetaRest (Done done) (if done then pure (made.Path path) else name_value start path) (λ q. if done then pure (made.Path q.1) else name_value q.0.1 q.1)
    done_by true = pure-rest start (made.Path path) (λ q. made.Path q.1) (rw append-nil refl) (λ q ok. ap made.Path ok.1)
    done_by false = name_value-rest

    done-seen : (done : Bool) (rest tail : Trees) → is_end rest ≡ done → Done done rest tail → (is_end tail ≡ done) × Grouped None rest tail
    done-seen true rest tail is f = (rw f refl, none-grouped rest tail f)
    done-seen false rest tail is f = f

    meta_by-rest : (grouped : Option Delimiter) → MetaRest (Grouped grouped) (meta_by start path grouped) (λ q. meta_by q.0.1 q.1 grouped)
    meta_by-rest (Some between) = meta_list-rest between
    meta_by-rest None = test-rest {by = Done} is_end done_by done-seen

  -- ---- meta items and attributes

  pub meta-back : RoundTrips erased_meta meta_tokens NotEnded AtEnd meta
  unfolding meta
  meta-back = whole (here-rest (λ start. then-rest {Second = λ rest tail. is_colons tail ≡ false} (λ (place : Span). meta_path-back) (λ path.
      test-rest {by = Grouped} delimiter_of (meta_by-rest start path) (λ grouped rest tail is f. f))
      (λ rest tail f. never is_colons rest tail f) (λ rest tail f. f.some)))

  pub attribute-back : RoundTrips erased_attribute attribute_tokens (λ rest tail. (is_end tail ≡ false) × (is_mark 35 tail ≡ true)) Any attribute
  unfolding attribute
  attribute-back = whole (here-rest (λ start. expect-rest {Second = Any} 1 (is_mark 35) (λ place. mark (codes "#") place) (mark-length (codes "#")) (λ place tail. hash-mark tail place)
      (then-rest {Start = Any} {Middle = Any} {Second = Any} (λ place. whole {P = Unit {0}} (inside-rest {Inner = NotEnded} delimiter.Bracket (λ it. place) (shown-rest tt (λ it. refl) meta-back) (λ rest inner tail span seen f. tt))) (λ found.
      close-rest start (λ q. q.0.1) (λ span. record { meta = found; span = span }) (λ q span. record { meta = q.1; span = span }) (λ span. rw append-nil refl) (λ span other q ok. rw (ok.1) refl))
      (λ rest tail f. f) (λ rest tail f. f))
      (λ input tail place seen f. (hash-some tail place, hash-mark tail place))))

  -- what follows is seen in the place of the attributes, where there are none
  pub attributes-back : (Sight : Relation) → ((rest tail : Trees) → is_mark 35 tail ≡ true → Sight rest tail) → RoundTrips (map erased_attribute) attributes_tokens Sight (AfterAttributes Sight) attributes
  unfolding attributes
  attributes-back Sight seen = while-printed erased_attribute attribute_tokens (is_mark 35) no-hash attribute attribute attribute-back (λ rest tail f. f) (λ rest tail. tt) Sight seen
