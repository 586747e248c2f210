-- The law of printing for `where` clauses.
use Rattle.std.proofs.Common.{◌≡◌, ℕ, zero, suc, ◌≤◌, Bool, true, false, ◌||◌, ◌==◌, if◌then◌else◌, List, [], ◌∷◌, ◌++◌, length, map, Some, None, option_map, refl, arith, ap, sym, subst, ◌∙◌, append_assoc, append-nil, length-append, codes, ◌⊎◌, inl, inr}
use Rattle.std.proofs.lemmas.Bool.{eqb-true}
use Rattle.std.proofs.lemmas.Option.{some_pair_parts}
use Rattle.tok_types.specs.declared.ident.Lifetime.{Lifetime}
use Rattle.tok_types.specs.declared.span.Span.{Span}
use Rattle.tok_types.specs.declared.span.Span.TheVariants.{CallSite}
use Rattle.tok_types.specs.declared.tree.Delimiter.TheVariants as delimiter
use Rattle.tok_types.specs.declared.tree.TokenTree.{out-TokenTree}
use Rattle.tok_types.specs.declared.tree.TokenTree.TheOpen.{TokenTree-F}
use Rattle.tok_types.specs.declared.tree.TokenTree.TheVariants as tree
use Rattle.node_expr.specs.declared.ty.«Type».{«Type» as Ty}
use Rattle.node_core.specs.declared.generics.WherePredicate.{WherePredicate}
use Rattle.node_core.specs.declared.generics.WherePredicate.TheVariants as predicate
use Rattle.syn_grammar.specs.declared.word.Word.TheVariants as word
use Rattle.syn_grammar.specs.Grammar.{within, max_depth}
use Rattle.syn_grammar.specs.Input.{Input, Outcome, Parser, ◌>>=◌, ◌>>◌, ◌<$>◌, pure, after_eat, eat, expect, is_end, skipped, take_as, upto, first_span, and_then, until_from}
use Rattle.syn_grammar.specs.Look.{begins_constant, is_there, type_start, is_bool}
use Rattle.syn_grammar.specs.Paths.{angle_list, binder}
use Rattle.syn_grammar.specs.Token.{Layer, is_colon, is_comma, is_group, is_less, is_mark, is_semicolon, lifetime_of, mark_of, is_colons, is_arrow, is_equals, is_plus, is_pair, is_joint, ident_of, literal_of}
use Rattle.tok_types.specs.Delimiter.{same_delimiter}
use Rattle.syn_grammar.specs.Words.{next_word, peek, named_words, other_keywords, word_of}
use Rattle.syn_items.specs.Generics.{any_type, colon_bounds, ends_where, lifetime_predicate, lifetimes, maybe_where, predicates, predicates_from, type_predicate, where_clause, where_predicate}
use Rattle.print_core.specs.Items.{begins_with_binder, maybe_where as printed_where, predicate_binder, predicate_tokens, where_tokens}
use Rattle.print_core.specs.Marks.{Trees, comma, joined, ended, lifetime, mark, word as printed_word}
use Rattle.print_core.specs.Nodes.{bound_tokens, type_tokens}
use Rattle.print_core.specs.Paths.{angled, sum_of}
use Rattle.law_spans.specs.Erased.{erased_bound, erased_lifetime, erased_type}
use Rattle.law_spans_items.specs.Erased.{erased_predicate, erased_where}
use Rattle.law_prefix.specs.SameLookahead.{Relation, Any}
use Rattle.law_prefix.specs.ReadsByPrefix.{at}
use Rattle.law_round_trip.specs.Follow.{AfterType, BeginsType, NotEnded, Open, is_type}
use Rattle.law_round_trip.specs.Parts.{AllRoundTrip}
use Rattle.law_round_trip.specs.Printed.{Again, Reads, RoundTrips}
use Rattle.law_round_trip.proofs.Follows.{never, type_before-mark, type-end, type-seen}
use Rattle.law_round_trip.proofs.Functions.{colon-mark}
use Rattle.law_round_trip.proofs.Lists.{More, comma-length, ended-push, joined-push, same-push, some-length, until-printed}
use Rattle.law_round_trip.proofs.Marks.{is_comma-comma, lifetime_of-Lifetime, lifetime_of-word, mark_of-Lifetime, mark-length, mark_of-mark, mark_of-word, out-Ident, sees-for, word-length, out-Lifetime}
use Rattle.law_round_trip.proofs.Steps.{Free, Rest, bind-at, hole, whole, close-rest, here-rest, part, pure-rest, shown-rest, test-rest, then-rest, weak-rest, Gives}
use Rattle.law_round_trip.proofs.Takes.{expect-rest, skipped-over, take_as-rest}
use Rattle.law_round_trip_items.specs.Follow.{AfterWhere, BeginsPredicate, BeginsWhere}
use Rattle.law_round_trip_items.proofs.Params.{bounds_here-back, lifetimes-back, lifetime-back, type_before-colon}
use Rattle.tok_types.specs.declared.tree.Delimiter.{Delimiter}
use Rattle.tok_types.specs.declared.tree.Group.{out-Group}
use Rattle.law_round_trip_items.proofs.Binders.{type-for}
use Rattle.law_round_trip_items.proofs.Makes.{made-rest, angled-flat}
use Rattle.std.proofs.Math.Bool.{and-false, or-false}

-- ---- what stands behind a clause

-- what a clause stands before goes on with no type, and is no comma
record EndSeen (rest tail : Trees) : Type 0 where
  type : AfterType true rest tail
  comma : is_comma tail ≡ false

no-parenthesis : (between : Delimiter) → same_delimiter between delimiter.Brace ≡ true → same_delimiter between delimiter.Parenthesis ≡ false
no-parenthesis delimiter.Brace h = refl
no-parenthesis _ h = absurd cc

end-seen : (rest tail : Trees) → ends_where tail ≡ true → EndSeen rest tail
unfolding is_group mark_of is_pair is_joint
end-seen rest [] is = record { type = type-end true rest; comma = refl }
end-seen rest (tree ∷ trees) is = by (out-TokenTree tree) refl
  where
    by : (layer : Layer) → out-TokenTree tree ≡ layer → EndSeen rest (tree ∷ trees)
    by (TokenTree-F.Ident other) same = let none = rw same at is in absurd cc
    by (TokenTree-F.Lifetime other) same = let none = rw same at is in absurd cc
    by (TokenTree-F.Literal other) same = let none = rw same at is in absurd cc
    by (TokenTree-F.Punct punct) same =
        let semicolon = eqb-true punct.ch 59 (sym (or-false (punct.ch == 59)) ∙ rw same at is) in
        record {
          type = (
            (
              never is_colons rest (tree ∷ trees) (rw (same, semicolon) (and-false punct.joint)),
              record {
                less = never is_less rest (tree ∷ trees) (rw (same, semicolon) refl);
                inputs = never (is_group delimiter.Parenthesis) rest (tree ∷ trees) (rw same refl);
                arrow = never is_arrow rest (tree ∷ trees) (rw (same, semicolon) (and-false punct.joint));
                equals = never is_equals rest (tree ∷ trees) (rw (same, semicolon) refl);
                colon = never is_colon rest (tree ∷ trees) (rw (same, semicolon) refl);
              },
            ),
            never is_plus rest (tree ∷ trees) (rw (same, semicolon) refl),
          );
          comma = rw (same, semicolon) refl;
        }
    by (TokenTree-F.Group other) same = record {
      type = (
        (
          never is_colons rest (tree ∷ trees) (rw same refl),
          record {
            less = never is_less rest (tree ∷ trees) (rw same refl);
            inputs = never (is_group delimiter.Parenthesis) rest (tree ∷ trees) (rw same (no-parenthesis (out-Group other).delimiter (rw same at is)));
            arrow = never is_arrow rest (tree ∷ trees) (rw same refl);
            equals = never is_equals rest (tree ∷ trees) (rw same refl);
            colon = never is_colon rest (tree ∷ trees) (rw same refl);
          },
        ),
        never is_plus rest (tree ∷ trees) (rw same refl),
      );
      comma = rw same refl;
    }

sees-where : (span : Span) (tail : Trees) → next_word (printed_word (codes "where") span ++ tail) ≡ word.Where
unfolding printed_word next_word ident_of word_of named_words other_keywords
sees-where span tail = rw (out-Ident (record { text = codes "where"; raw = false; span = span })) refl

end-where : (tail : Trees) → ends_where tail ≡ true → peek word.Where tail ≡ false
unfolding is_group mark_of next_word ident_of
end-where [] is = refl
end-where (tree ∷ trees) is = by (out-TokenTree tree) refl
  where
    by : (layer : Layer) → out-TokenTree tree ≡ layer → peek word.Where (tree ∷ trees) ≡ false
    by (TokenTree-F.Ident other) same = let none = rw same at is in absurd cc
    by (TokenTree-F.Lifetime other) same = rw same refl
    by (TokenTree-F.Literal other) same = rw same refl
    by (TokenTree-F.Punct other) same = rw same refl
    by (TokenTree-F.Group other) same = rw same refl

-- ---- what a predicate begins with

-- a lifetime or none, and no clause ends
abbrev Living : Bool → Relation
Living lifetime rest tail = (is_there (lifetime_of tail) ≡ lifetime) × BeginsPredicate rest tail

lifetime-living : (it : Lifetime) (rest tail : Trees) → Living true rest (tree.Lifetime it ∷ tail)
unfolding is_group
lifetime-living it rest tail = (rw (lifetime_of-Lifetime it tail) refl, rw (mark_of-Lifetime it tail, out-Lifetime it) refl)

for-living : (span : Span) (rest tail : Trees) → Living false rest (printed_word (codes "for") span ++ tail)
unfolding printed_word is_group
for-living span rest tail = (
  rw (lifetime_of-word (codes "for") span tail) refl,
  rw (mark_of-word (codes "for") span tail, out-Ident (record { text = codes "for"; raw = false; span = span })) refl,
)

type-semicolon : (trees : Trees) → is_type (type_start trees) ≡ true → is_semicolon trees ≡ false
unfolding type_start is_group mark_of is_pair is_joint next_word ident_of
type-semicolon [] h = absurd cc
type-semicolon (tree ∷ trees) h = by (out-TokenTree tree) refl
  where
    by : (layer : Layer) → out-TokenTree tree ≡ layer → is_semicolon (tree ∷ trees) ≡ false
    by (TokenTree-F.Ident other) same = rw same refl
    by (TokenTree-F.Lifetime other) same = rw same refl
    by (TokenTree-F.Literal other) same = rw same refl
    by (TokenTree-F.Group other) same = rw same refl
    by (TokenTree-F.Punct punct) same = rw same (mark (punct.ch == 59) punct.joint refl refl)
      where
        mark : (b joint : Bool) → (punct.ch == 59) ≡ b → punct.joint ≡ joint → (punct.ch == 59) ≡ false
        mark false joint is joint_is = is
        mark true true is joint_is = let none = rw (same, eqb-true punct.ch 59 is, joint_is) at h in absurd cc
        mark true false is joint_is = let none = rw (same, eqb-true punct.ch 59 is, joint_is) at h in absurd cc

no-brace : (trees : Trees) → begins_constant trees ≡ false → is_group delimiter.Brace trees ≡ false
unfolding begins_constant
no-brace trees h = by (is_there (literal_of trees)) (is_bool (next_word trees)) (is_group delimiter.Brace trees) refl h
  where
    by : (literal truth brace : Bool) → is_group delimiter.Brace trees ≡ brace → (literal || truth || brace) ≡ false → is_group delimiter.Brace trees ≡ false
    by literal truth false is h = is
    by true truth true is h = absurd cc
    by false true true is h = absurd cc
    by false false true is h = absurd cc

type-living : (rest tail source : Trees) → BeginsType source tail → Living false rest tail
type-living rest tail source f =
    let seen = type-seen tail f.0 in
    (rw (seen.lifetime) refl, rw (seen.some, type-semicolon tail f.0, no-brace tail seen.constant) refl)

-- ---- lifetimes in `for<..>`

for_tokens : List Lifetime → Span → Trees
for_tokens found span = printed_word (codes "for") span ++ angled (map lifetime found) span

abbrev inner_tokens : List Lifetime → Span → Trees
inner_tokens found span = joined (comma span) (map lifetime found) ++ mark (codes ">") span

inner-back : (span : Span) → RoundTrips (map erased_lifetime) (λ found. inner_tokens found span) Any Any (angle_list (take_as lifetime_of))
inner-back span = until-printed erased_lifetime lifetime 62 refl (take_as lifetime_of) (take_as lifetime_of) lifetime-back (λ rest tail f. f) (λ rest tail span. tt) (λ rest tail span. tt) span

-- no lifetimes, from `>`
inner-none : (span : Span) → (after : Input) × (angle_list (take_as lifetime_of) (at (mark (codes ">") span) CallSite) ≡ Some ([], after))
unfolding until_from after_eat mark
inner-none span = by (is_mark 62 (mark (codes ">") span)) (rw append-nil at (mark_of-mark 62 [] span []))
  where
    by : (b : Bool) → mark_of (mark (codes ">") span) ≡ 62 → (after : Input) × (angle_list (take_as lifetime_of) (at (mark (codes ">") span) CallSite) ≡ Some ([], after))
    by b is = (skipped 1 (at (mark (codes ">") span) CallSite), rw is refl)

for-again : (found : List Lifetime) (span : Span) → Reads (map erased_lifetime) (λ tail. Unit {0}) (λ tail. Unit {0}) (angle_list (take_as lifetime_of)) (inner_tokens found span) found
    → (tail : Trees) (last : Span) → Again (map erased_lifetime) binder (at (for_tokens found span ++ tail) last) tail found
unfolding binder after_eat for_tokens
for-again found span one tail last =
    let for = skipped-over 1 (printed_word (codes "for") span) (mark (codes "<") span ++ (inner_tokens found span ++ tail)) last (word-length (codes "for") span) in
    let less = skipped-over 1 (mark (codes "<") span) (inner_tokens found span ++ tail) for.0 (mark-length (codes "<") span) in
    let more = one.again tail less.0 tt in
    record {
      value = more.value;
      new = more.new;
      is = rw (
        append_assoc (printed_word (codes "for") span) (angled (map lifetime found) span) tail,
        angled-flat (map lifetime found) span tail,
        sees-for span (mark (codes "<") span ++ (inner_tokens found span ++ tail)),
        for.1,
        mark_of-mark 60 [] span (inner_tokens found span ++ tail),
        less.1,
      ) more.is;
      same = more.same;
    }

-- the lifetimes of a predicate are read again, where no type with a binder of its own is left bare
bound-again : (input between : Input) (found : List Lifetime) → binder input ≡ Some (found, between) → (ty : Ty) (span : Span) (tail : Trees) (last : Span) → (begins_with_binder ty ≡ false → peek word.For tail ≡ false)
    → Again (map erased_lifetime) binder (at (predicate_binder found ty span ++ tail) last) tail found
unfolding binder after_eat for_tokens
bound-again input between [] e ty span tail last bare = none (begins_with_binder ty) refl
  where
    none : (b : Bool) → begins_with_binder ty ≡ b → Again (map erased_lifetime) binder (at ((if b then for_tokens [] span else []) ++ tail) last) tail []
    none true is = let empty = inner-none span in for-again [] span ((inner-back span).of (at (mark (codes ">") span) CallSite) empty.0 [] empty.1) tail last
    none false is = record { value = []; new = last; is = rw (bare is) refl; same = refl }
bound-again input between (it ∷ found) e ty span tail last bare = for-again (it ∷ found) span (bound (peek word.For input.rest) e) tail last
  where
    ItRead : Type 0
    ItRead = Reads (map erased_lifetime) (λ tail. Unit {0}) (λ tail. Unit {0}) (angle_list (take_as lifetime_of)) (inner_tokens (it ∷ found) span) (it ∷ found)

    opened : (b : Bool) (one two : Input) → and_then (if b then Some (tt {0}, one) else None) (λ _. angle_list (take_as lifetime_of)) ≡ Some (it ∷ found, between) → ItRead
    opened true one two e = (inner-back span).of one between (it ∷ found) e
    opened false one two e = absurd cc

    bound : (b : Bool) → (if b then expect 1 is_less >> angle_list (take_as lifetime_of) else pure []) (after_eat 1 b input) ≡ Some (it ∷ found, between) → ItRead
    bound true e = opened (is_less (skipped 1 input).rest) (skipped 1 (skipped 1 input)) input e
    bound false e = let none = (some_pair_parts [] (it ∷ found) (after_eat 1 false input) between e).0 in absurd cc

-- what begins with the lifetimes and the type
bound-first : (found : List Lifetime) (ty : Ty) (span : Span) (rest source tail : Trees) → BeginsType source tail → Living false rest (predicate_binder found ty span ++ tail)
bound-first [] ty span rest source tail f = none (begins_with_binder ty)
  where
    none : (b : Bool) → Living false rest ((if b then printed_word (codes "for") span ++ angled [] span else []) ++ tail)
    none true = rw (append_assoc (printed_word (codes "for") span) (angled [] span) tail) (for-living span rest (angled [] span ++ tail))
    none false = type-living rest tail source f
bound-first (it ∷ found) ty span rest source tail f =
    rw (append_assoc (printed_word (codes "for") span) (angled (map lifetime (it ∷ found)) span) tail) (for-living span rest (angled (map lifetime (it ∷ found)) span ++ tail))

-- ---- predicates

module _ (parts : AllRoundTrip (within max_depth)) where
  lifetime_predicate-back : RoundTrips erased_predicate predicate_tokens (Living true) (AfterType true) lifetime_predicate
  unfolding lifetime_predicate
  lifetime_predicate-back = whole (here-rest (λ start. take_as-rest {Second = Any} lifetime_of tree.Lifetime (λ rest tail it is. lifetime_of-Lifetime it tail) (λ it.
      expect-rest {Second = Open} 1 is_colon (λ place. mark (codes ":") place) (mark-length (codes ":")) (λ place tail. colon-mark tail place)
      (then-rest {Second = AfterType true} (λ place. lifetimes-back place) (λ longer. close-rest start (λ q. q.0.1) (λ span. predicate.Lifetime it longer span) (λ q span. predicate.Lifetime it q.1 span)
      (λ span. rw append-nil refl) (λ span other q ok. rw (ok.1) refl))
      (λ rest tail f. f) (λ rest tail f. f))
      (λ input tail place seen f. tt))
      (λ input tail it is f. lifetime-living it input.rest tail)))

  -- `: A + B`
  colon_bounds-back : (span : Span) → RoundTrips (map erased_bound) (λ found. mark (codes ":") span ++ sum_of (map bound_tokens found) span) (AfterType true) (AfterType true) colon_bounds
  colon_bounds-back span = whole {P = Unit {0}} (expect-rest {Second = NotEnded} 1 is_colon (λ place. mark (codes ":") span) (λ place. mark-length (codes ":") span) (λ place tail. colon-mark tail span)
      (shown-rest tt (λ it. refl) (bounds_here-back parts span))
      (λ input tail place seen f. type_before-colon true input.rest tail span seen))

  -- what was bound: where the predicate starts, its lifetimes and its type
  abbrev Env : Type 0
  Env = (Span × List Lifetime) × Ty

  abbrev bounded_type : Span → List Lifetime → Ty → Parser WherePredicate
  bounded_type start lifetimes ty = colon_bounds >>= (λ found. upto start >>= (λ span. pure (predicate.Ty lifetimes ty found span)))

  module _ (start : Span) (lifetimes : List Lifetime) (ty : Ty) where
    abbrev Bound : Env → Type 0
    Bound q = (map erased_lifetime q.0.1 ≡ map erased_lifetime lifetimes) × (erased_type q.1 ≡ erased_type ty)

    bounded_type-rest : Rest {P = Span} {Q = Env} Bound erased_predicate predicate_tokens (λ place tokens. predicate_binder lifetimes ty place ++ (type_tokens ty ++ tokens)) (AfterType true) (AfterType true) (bounded_type start lifetimes ty) (λ q. bounded_type q.0.0 q.0.1 q.1)
    bounded_type-rest = then-rest {Second = AfterType true} (λ place. colon_bounds-back place) (λ found. close-rest start (λ q. q.0.0.0) (λ span. predicate.Ty lifetimes ty found span) (λ q span. predicate.Ty q.0.0.1 q.0.1 q.1 span)
        (λ span. rw (append-nil, append_assoc, append_assoc) refl) (λ span other q ok. rw (ok.0.0, ok.0.1, ok.1) refl))
        (λ rest tail f. f) (λ rest tail f. f)

  -- lifetimes, a type and its bounds, behind each other
  type_predicate-read : (input between behind after : Input) (lifetimes : List Lifetime) (ty : Ty) (found : WherePredicate) → binder input ≡ Some (lifetimes, between) → any_type between ≡ Some (ty, behind)
      → Gives {P = Span} {Q = Env} (Bound (first_span input.rest) lifetimes ty) erased_predicate predicate_tokens (λ place tokens. predicate_binder lifetimes ty place ++ (type_tokens ty ++ tokens)) (AfterType true behind.rest) (AfterType true after.rest) (λ q. bounded_type q.0.0 q.0.1 q.1) found
      → Reads erased_predicate (Living false input.rest) (AfterType true after.rest) type_predicate (predicate_tokens found) found
  unfolding type_predicate
  type_predicate-read input between behind after lifetimes ty found bound typed rest =
      subst (λ tokens. Reads erased_predicate (Living false input.rest) (AfterType true after.rest) type_predicate tokens found) (sym rest.is) (record {
        again = λ tail last f.
            let follows = rest.first tail f in
            let before = bound-again input between lifetimes bound ty rest.place (type_tokens ty ++ (rest.tokens ++ tail)) last (λ bare. type-for between behind ty typed (rest.tokens ++ tail) follows bare) in
            let one = ((parts.ty true).of between behind ty typed).again (rest.tokens ++ tail) before.new follows in
            let start = first_span (predicate_binder lifetimes ty rest.place ++ (type_tokens ty ++ (rest.tokens ++ tail))) in
            let more = rest.again ((start, before.value), one.value) (before.same, one.same) tail one.new f in
            record { value = more.value; new = more.new; is = rw (flat tail, before.is, one.is) more.is; same = more.same };
        first = λ tail f. rw (flat tail) (bound-first lifetimes ty rest.place input.rest between.rest (type_tokens ty ++ (rest.tokens ++ tail)) (((parts.ty true).of between behind ty typed).first (rest.tokens ++ tail) (rest.first tail f)));
      })
    where
      flat : (tail : Trees) → (predicate_binder lifetimes ty rest.place ++ (type_tokens ty ++ rest.tokens)) ++ tail ≡ predicate_binder lifetimes ty rest.place ++ (type_tokens ty ++ (rest.tokens ++ tail))
      flat tail = rw (append_assoc (predicate_binder lifetimes ty rest.place) (type_tokens ty ++ rest.tokens) tail, append_assoc (type_tokens ty) rest.tokens tail) refl

  type_predicate-back : RoundTrips erased_predicate predicate_tokens (Living false) (AfterType true) type_predicate
  unfolding type_predicate
  type_predicate-back = record {
    of = λ input after found e.
        let bound = bind-at (binder input) (λ lifetimes. any_type >>= (λ ty. bounded_type (first_span input.rest) lifetimes ty)) found after e in
        let typed = bind-at (any_type bound.1) (λ ty. bounded_type (first_span input.rest) bound.0 ty) found after bound.3 in
        type_predicate-read input bound.1 typed.1 after bound.0 typed.0 found bound.2 typed.2 ((bounded_type-rest (first_span input.rest) bound.0 typed.0).of typed.1 after found typed.3);
  }

  predicate_by : (lifetime : Bool) → Rest {P = Unit {0}} {Q = Unit {0}} Free erased_predicate predicate_tokens hole (Living lifetime) (AfterType true) (if lifetime then lifetime_predicate else type_predicate) (λ q. if lifetime then lifetime_predicate else type_predicate)
  predicate_by true = shown-rest tt (λ it. refl) lifetime_predicate-back
  predicate_by false = shown-rest tt (λ it. refl) type_predicate-back

  pub where_predicate-back : RoundTrips erased_predicate predicate_tokens BeginsPredicate (AfterType true) where_predicate
  unfolding where_predicate
  where_predicate-back = whole (test-rest {by = Living} (λ trees. is_there (lifetime_of trees)) predicate_by (λ lifetime rest tail is f. f))

  -- ---- lists of predicates

  module _ (span : Span) where
    abbrev PredicatesMore : List WherePredicate → List WherePredicate → Type 0
    PredicatesMore found items = More erased_predicate (ended (comma span) (map predicate_tokens found)) predicates_from (λ tail. ends_where tail ≡ true) (joined (comma span) (map predicate_tokens items)) found items

    abbrev OneReads : Trees → Trees → WherePredicate → Type 0
    OneReads source rest x = Reads erased_predicate (BeginsPredicate source) (AfterType true rest) where_predicate (predicate_tokens x) x

    -- a predicate is some tokens
    predicate-some : (source rest : Trees) (x : WherePredicate) → OneReads source rest x → is_end (predicate_tokens x ++ []) ≡ false
    predicate-some source rest x one = unended (predicate_tokens x ++ []) (one.first [] (type-end true rest))
      where
        unended : (trees : Trees) → ends_where trees ≡ false → is_end trees ≡ false
        unended [] h = absurd cc
        unended (tree ∷ trees) h = refl

    predicates-last : (found : List WherePredicate) (input after : Input) (x : WherePredicate) → OneReads input.rest after.rest x → PredicatesMore found (found ++ x ∷ [])
    unfolding predicates_from after_eat
    predicates-last found input after x one = record {
      tokens = predicate_tokens x;
      is = joined-push (comma span) predicate_tokens found x;
      longer = omega (arith, length-append found (x ∷ []));
      some = rw append-nil at (predicate-some input.rest after.rest x one);
      again = go;
    }
      where
        go : (turns : ℕ) (others : List WherePredicate) → map erased_predicate others ≡ map erased_predicate found → (tail : Trees) (last : Span) → length (predicate_tokens x) ≤ turns → ends_where tail ≡ true
            → Again (map erased_predicate) (predicates_from turns others) (at (predicate_tokens x ++ tail) last) tail (found ++ x ∷ [])
        go zero others same tail last fits f = absurd (omega (arith, some-length (predicate_tokens x) (predicate-some input.rest after.rest x one), fits))
        go (suc turns) others same tail last fits f =
            let seen = end-seen after.rest tail f in
            let more = one.again tail last seen.type in
            record { value = others ++ more.value ∷ []; new = more.new; is = rw (one.first tail seen.type, more.is, seen.comma) refl; same = same-push erased_predicate others found more.value x same more.same }

    predicates-more : (found items : List WherePredicate) (input after : Input) (x : WherePredicate) → OneReads input.rest after.rest x → PredicatesMore (found ++ x ∷ []) items → PredicatesMore found items
    unfolding predicates_from after_eat
    predicates-more found items input after x one two = record {
      tokens = predicate_tokens x ++ (comma span ++ two.tokens);
      is = two.is ∙ rw (ended-push (comma span) predicate_tokens found x, append_assoc, append_assoc) refl;
      longer = omega (arith, length-append found (x ∷ []), two.longer);
      some = still-some (predicate_tokens x) (comma span ++ two.tokens) (predicate-some input.rest after.rest x one);
      again = go;
    }
      where
        still-some : (trees more : Trees) → is_end (trees ++ []) ≡ false → is_end (trees ++ more) ≡ false
        still-some [] more h = absurd cc
        still-some (tree ∷ trees) more h = refl

        go : (turns : ℕ) (others : List WherePredicate) → map erased_predicate others ≡ map erased_predicate found → (tail : Trees) (last : Span) → length (predicate_tokens x ++ (comma span ++ two.tokens)) ≤ turns → ends_where tail ≡ true
            → Again (map erased_predicate) (predicates_from turns others) (at ((predicate_tokens x ++ (comma span ++ two.tokens)) ++ tail) last) tail items
        go zero others same tail last fits f = absurd (omega (arith, some-length (predicate_tokens x) (predicate-some input.rest after.rest x one), length-append (predicate_tokens x) (comma span ++ two.tokens), fits))
        go (suc turns) others same tail last fits f =
            let behind = type_before-mark 44 refl refl refl refl span after.rest (two.tokens ++ tail) true in
            let more = one.again (comma span ++ (two.tokens ++ tail)) last behind in
            let stands = skipped-over 1 (comma span) (two.tokens ++ tail) more.new (comma-length span) in
            let rest = two.again turns (others ++ more.value ∷ []) (same-push erased_predicate others found more.value x same more.same) tail stands.0
            (omega (arith, some-length (predicate_tokens x) (predicate-some input.rest after.rest x one), length-append (predicate_tokens x) (comma span ++ two.tokens), length-append (comma span) two.tokens, fits)) f in
            record {
              value = rest.value;
              new = rest.new;
              is = rw (
                append_assoc (predicate_tokens x) (comma span ++ two.tokens) tail,
                append_assoc (comma span) two.tokens tail,
                one.first (comma span ++ (two.tokens ++ tail)) behind,
                more.is,
                is_comma-comma (two.tokens ++ tail) span,
                stands.1,
              ) rest.is;
              same = rest.same;
            }

    predicates_from-more : (turns : ℕ) (found : List WherePredicate) (input after : Input) (items : List WherePredicate) → predicates_from turns found input ≡ Some (items, after) → (items ≡ found) ⊎ PredicatesMore found items
    unfolding predicates_from
    predicates_from-more zero found input after items e = ended (ends_where input.rest) e
      where
        ended : (b : Bool) → ◌≡◌ {A = Outcome (List WherePredicate)} ((if b then pure found else (λ input. None)) input) (Some (items, after)) → (items ≡ found) ⊎ PredicatesMore found items
        ended true e = inl (sym (some_pair_parts found items input after e).0)
        ended false e = absurd cc
    predicates_from-more (suc turns) found input after items e = closed (ends_where input.rest) (λ y between. predicates_from-more turns (found ++ y ∷ []) between after items) e
      where
        Later : Type 0
        Later = (y : WherePredicate) (between : Input) → predicates_from turns (found ++ y ∷ []) between ≡ Some (items, after) → (items ≡ found ++ y ∷ []) ⊎ PredicatesMore (found ++ y ∷ []) items

        goes : (b : Bool) (between behind : Input) (y : WherePredicate) → OneReads input.rest between.rest y → Later
            → (if b then predicates_from turns (found ++ y ∷ []) else pure (found ++ y ∷ [])) behind ≡ Some (items, after) → PredicatesMore found items
        goes true between behind y one later e = again (later y behind e)
          where
            again : (items ≡ found ++ y ∷ []) ⊎ PredicatesMore (found ++ y ∷ []) items → PredicatesMore found items
            again (inl same) = subst (λ items. PredicatesMore found items) (sym same) (predicates-last found input between y one)
            again (inr two) = predicates-more found items input between y one two
        goes false between behind y one later e = subst (λ items. PredicatesMore found items) (some_pair_parts (found ++ y ∷ []) items behind after e).0 (predicates-last found input between y one)

        closed : (b : Bool) → Later → (if b then pure found else (where_predicate >>= (λ y. eat 1 is_comma >>= (λ more. if more then predicates_from turns (found ++ y ∷ []) else pure (found ++ y ∷ []))))) input ≡ Some (items, after)
            → (items ≡ found) ⊎ PredicatesMore found items
        closed true later e = inl (sym (some_pair_parts found items input after e).0)
        closed false later e =
            let parts = bind-at (where_predicate input) (λ y. eat 1 is_comma >>= (λ more. if more then predicates_from turns (found ++ y ∷ []) else pure (found ++ y ∷ []))) items after e in
            inr (goes (is_comma parts.1.rest) parts.1 (after_eat 1 (is_comma parts.1.rest) parts.1) parts.0 (where_predicate-back.of input parts.1 parts.0 parts.2) later parts.3)

    predicates-none : (turns : ℕ) (tail : Trees) (last : Span) → ends_where tail ≡ true → predicates_from turns [] (at tail last) ≡ Some ([], at tail last)
    unfolding predicates_from
    predicates-none zero tail last h = rw h refl
    predicates-none (suc turns) tail last h = rw h refl

    predicates-back : RoundTrips (map erased_predicate) (λ items. joined (comma span) (map predicate_tokens items)) Any AfterWhere predicates
    predicates-back = record { of = λ input after items e. made input after items (predicates_from-more (length input.rest) [] input after items e) }
      where
        made : (input after : Input) (items : List WherePredicate) → (items ≡ []) ⊎ PredicatesMore [] items → Reads (map erased_predicate) (λ tail. Unit {0}) (λ tail. ends_where tail ≡ true) predicates (joined (comma span) (map predicate_tokens items)) items
        made input after items (inl none) = rw none (record { again = λ tail last f. record { value = []; new = last; is = predicates-none (length tail) tail last f; same = refl }; first = λ tail f. tt })
        made input after items (inr more) = record {
          again = λ tail last f.
              let last = more.again (length (more.tokens ++ tail)) [] refl tail last (omega (arith, length-append more.tokens tail)) f in
              record { value = last.value; new = last.new; is = rw (more.is) last.is; same = last.same };
          first = λ tail f. tt;
        }

  -- ---- clauses

  pub where_clause-back : RoundTrips erased_where where_tokens (λ rest tail. peek word.Where tail ≡ true) AfterWhere where_clause
  unfolding where_clause
  where_clause-back = whole (here-rest (λ start. expect-rest {Second = Any} 1 (peek word.Where) (λ place. printed_word (codes "where") place) (word-length (codes "where")) (λ place tail. rw (sees-where place tail) refl)
      (then-rest {Second = AfterWhere} (λ place. predicates-back place) (λ found. close-rest start (λ q. q.0.1) (λ span. record { predicates = found; span = span }) (λ q span. record { predicates = q.1; span = span })
      (λ span. rw append-nil refl) (λ span other q ok. rw (ok.1) refl))
      (λ rest tail f. f) (λ rest tail f. f))
      (λ input tail place seen f. rw (sees-where place tail) refl)))

  -- a clause comes, or none
  abbrev Clause : Bool → Relation
  Clause there rest tail = (peek word.Where tail ≡ there) × BeginsWhere rest tail

  clause_by : (there : Bool) → Rest {P = Unit {0}} {Q = Unit {0}} Free (option_map erased_where) printed_where hole (Clause there) AfterWhere (if there then Some <$> where_clause else pure None) (λ q. if there then Some <$> where_clause else pure None)
  clause_by true = weak-rest (λ rest tail f. f) (λ rest tail f. (f, rw f refl)) (made-rest Some (λ it. refl) (λ one other same. ap Some same) (part where_clause-back))
  clause_by false = weak-rest (λ rest tail f. f) (λ rest tail f. (end-where tail f, rw (end-where tail f, f) refl)) (pure-rest tt None (λ q. None) refl (λ q ok. refl))

  pub maybe_where-back : RoundTrips (option_map erased_where) printed_where BeginsWhere AfterWhere maybe_where
  unfolding maybe_where
  maybe_where-back = whole (test-rest {by = Clause} (peek word.Where) clause_by (λ there rest tail is f. f))
