-- The law of printing for parameters.
use Rattle.std.proofs.Common.{◌≡◌, ℕ, ◌≤◌, Bool, true, false, if◌then◌else◌, List, [], ◌∷◌, ◌++◌, length, map, Option, Some, None, option_map, refl, arith, ap, ◌∙◌, append_assoc, append-nil, codes, ◌==◌}
use Rattle.std.proofs.lemmas.Option.{some_pair_parts}
use Rattle.tok_types.specs.declared.ident.Ident.{Ident}
use Rattle.tok_types.specs.declared.ident.Lifetime.{Lifetime}
use Rattle.tok_types.specs.declared.span.Span.{Span}
use Rattle.tok_types.specs.declared.span.Span.TheVariants.{CallSite}
use Rattle.tok_types.specs.declared.tree.Delimiter.TheVariants as delimiter
use Rattle.tok_types.specs.declared.tree.TokenTree.TheVariants as tree
use Rattle.node_expr.specs.declared.generics.TypeParamBound.{TypeParamBound}
use Rattle.node_core.specs.declared.attr.Attribute.{Attribute}
use Rattle.node_core.specs.declared.generics.GenericParam.{GenericParam}
use Rattle.node_core.specs.declared.generics.GenericParam.TheVariants as param
use Rattle.syn_grammar.specs.declared.word.Word.{Word}
use Rattle.syn_grammar.specs.declared.word.Word.TheVariants as word
use Rattle.tok_types.specs.declared.tree.TokenTree.{out-TokenTree}
use Rattle.tok_types.specs.declared.tree.TokenTree.TheOpen.{TokenTree-F}
use Rattle.tok_types.specs.Span.{joined as joined_spans}
use Rattle.std.proofs.lemmas.Bool.{eqb-true}
use Rattle.syn_grammar.specs.Grammar.{within, max_depth}
use Rattle.syn_grammar.specs.Input.{Input, Parser, ◌>>=◌, ◌<$>◌, pure, after_eat, skipped, take_as, eat, first_span, upto}
use Rattle.syn_grammar.specs.Look.{begins_constant, is_there}
use Rattle.syn_grammar.specs.Paths.{joined_bounds, one_bound}
use Rattle.syn_grammar.specs.Readers.{constant_level}
use Rattle.syn_grammar.specs.Token.{is_colon, is_equals, is_less, is_mark, is_plus, lifetime_of, literal_of, is_colons, is_arrow, ident_of, is_group, is_pair, Layer, ident_in, lifetime_in, mark_of}
use Rattle.syn_grammar.specs.Words.{name_of, next_word, peek, is_word, name_at, word_at}
use Rattle.syn_items.specs.Generics.{behind, bounded, bounds, const_default, const_param, const_value, expr_at, expr_of_name, generic_param, lifetime_param, lifetimes, one_type_param, outlived, param_by, params, params_in_angles, type_default, type_param}
use Rattle.syn_items.specs.Visibility.{path_of_word}
use Rattle.print_core.specs.Items.{attributes_tokens, maybe_bounds, maybe_equal, param_tokens, type_param_tokens}
use Rattle.print_core.specs.Marks.{Trees, comma, joined, lifetime, mark, optional, plus, unless_empty, word as printed_word}
use Rattle.print_core.specs.Nodes.{bound_tokens, expr_tokens, type_tokens}
use Rattle.print_core.specs.Paths.{angled, sum_of}
use Rattle.law_spans.specs.Erased.{erased_bound, erased_expr, erased_lifetime, erased_type}
use Rattle.law_spans_items.specs.Erased.{erased_attribute, erased_generic_param, erased_type_param}
use Rattle.law_prefix.specs.SameLookahead.{Relation, Any}
use Rattle.law_prefix.specs.ReadsByPrefix.{at}
use Rattle.law_round_trip.specs.Follow.{AfterPath, AfterType, BeginsType, Keep, Open, NotEnded}
use Rattle.law_round_trip.specs.Parts.{AllRoundTrip}
use Rattle.law_round_trip.specs.Printed.{Again, Reads, Printed, RoundTrips}
use Rattle.law_round_trip.proofs.Bounds.{bounds-back}
use Rattle.law_round_trip.proofs.Follows.{keep-false, never, type_before-mark}
use Rattle.law_round_trip.proofs.Functions.{colon-mark}
use Rattle.law_round_trip.proofs.Joints.{joined-printed, joined-some}
use Rattle.law_round_trip.proofs.Lists.{until-printed}
use Rattle.law_round_trip.proofs.Marks.{lifetime_of-Lifetime, mark-length, mark_of-Lifetime, mark_of-mark, name_of-Ident, word-length, is_group-mark, is_joint-mark, out-Ident, name-word, lifetime_of-word, mark_of-word, sees-const, next_word-Ident}
use Rattle.law_round_trip.proofs.Steps.{Free, Rest, bind-at, hole, whole, close-rest, here-rest, pure-rest, test-rest, then-rest, weak-printed, shown-rest}
use Rattle.law_round_trip.proofs.Takes.{eat_or-rest, expect-rest, skipped-over, take_as-printed, take_as-rest}
use Rattle.law_round_trip_items.specs.Follow.{AfterParam, AfterParams, BeginsParam}
use Rattle.law_round_trip_items.proofs.Attributes.{attributes-back}
use Rattle.law_round_trip_items.proofs.Makes.{made-rest, angled-flat}
use Rattle.law_round_trip_items.proofs.Visibilities.{print-word}
use Rattle.print_core.specs.declared.path.PathStyle.TheVariants.{Turbofish}
use Rattle.law_round_trip.proofs.Exprs.{print-expr_path}

-- ---- what a mark announces

-- the part that a mark announces, or none, where the printing is by the part's own
pub behind-printed : {A C : Type 0} {bare : A → C} {print inner : A → Trees} {G F Start : Relation} {parser other : Parser A} (announces : Trees → Bool) (ch : ℕ) (span : Span) (none : A) → ((tail : Trees) → announces (mark (ch ∷ []) span ++ tail) ≡ true) → print none ≡ []
    → ((input after : Input) (x : A) → parser input ≡ Some (x, after) → print x ≡ mark (ch ∷ []) span ++ inner x) → Printed bare inner G F parser other
    → ((rest tail : Trees) → announces rest ≡ true → Start rest (mark (ch ∷ []) span ++ tail)) → ((rest tail : Trees) → announces rest ≡ false → F rest tail → (announces tail ≡ false) × Start rest tail)
    → Printed bare print Start F (behind announces none parser) (behind announces none other)
behind-printed {A} {C} {bare} {print} {inner} {G} {F} {Start} {parser} {other} announces ch span none peek empty shows rule starts stays =
    whole {P = Unit {0}} (eat_or-rest {Yes = G} {No = F} 1 announces (λ place. mark (ch ∷ []) span) (λ place. mark-length (ch ∷ []) span) (λ place tail. peek tail)
    (record {
      of = λ input after found e.
          let one = rule.of input after found e in
          record { place = tt; tokens = inner found; is = shows input after found e; again = λ q ok tail last f. one.again tail last f; first = one.first };
    })
    (pure-rest tt none (λ q. none) empty (λ q ok. refl))
    (λ input tail place is f. starts input.rest tail is) stays)

equals-mark : (tail : Trees) (span : Span) → is_equals (mark (codes "=") span ++ tail) ≡ true
equals-mark tail span = rw (mark_of-mark 61 [] span tail) refl

-- `=` and a part, or nothing
pub default-printed : {A C : Type 0} {bare : A → C} {print : A → Trees} {G F Start : Relation} {parser other : Parser A} (span : Span) → Printed bare print G F parser other
    → ((rest tail : Trees) → is_equals rest ≡ true → Start rest (mark (codes "=") span ++ tail)) → ((rest tail : Trees) → is_equals rest ≡ false → F rest tail → (is_equals tail ≡ false) × Start rest tail)
    → Printed (option_map bare) (λ found. maybe_equal (option_map print found) span) Start F (behind is_equals None (Some <$> parser)) (behind is_equals None (Some <$> other))
default-printed {A} {C} {bare} {print} {G} {F} {Start} {parser} {other} span rule starts stays =
    behind-printed {inner = λ found. optional (option_map print found)} is_equals 61 span None (λ tail. equals-mark tail span) refl shows
    (whole {P = Unit {0}} (then-rest {Second = F} (λ place. rule) (λ it. pure-rest tt (Some it) (λ q. Some q.1) (rw append-nil refl) (λ q ok. rw (ok.1) refl)) (λ rest tail f. f) (λ rest tail f. f)))
    starts stays
  where
    shows : (input after : Input) (found : Option A) → (Some <$> parser) input ≡ Some (found, after) → maybe_equal (option_map print found) span ≡ mark (codes "=") span ++ optional (option_map print found)
    shows input after found e =
        let parts = bind-at (parser input) (λ it. pure (Some it)) found after e in
        rw (← (some_pair_parts (Some parts.0) found parts.1 after parts.3).0) refl

-- ---- what follows

-- a mark behind a type, which goes on with it only where the source had it
module _ (ch : ℕ) (less : (ch == 60) ≡ false) (plus : (ch == 43) ≡ false) (span : Span) (rest tail : Trees) (equals : Keep is_equals rest (mark (ch ∷ []) span ++ tail)) (colon : Keep is_colon rest (mark (ch ∷ []) span ++ tail)) where
  type_before-kept : (allow_plus : Bool) → AfterType allow_plus rest (mark (ch ∷ []) span ++ tail)
  unfolding is_pair
  type_before-kept allow_plus = by allow_plus
    where
      path : AfterPath true rest (mark (ch ∷ []) span ++ tail)
      path = (
        never is_colons rest (mark (ch ∷ []) span ++ tail) (rw (is_joint-mark ch [] span tail) refl),
        record {
          less = never is_less rest (mark (ch ∷ []) span ++ tail) (rw (mark_of-mark ch [] span tail) less);
          inputs = never (is_group delimiter.Parenthesis) rest (mark (ch ∷ []) span ++ tail) (is_group-mark ch [] span tail delimiter.Parenthesis);
          arrow = never is_arrow rest (mark (ch ∷ []) span ++ tail) (rw (is_joint-mark ch [] span tail) refl);
          equals = equals;
          colon = colon;
        },
      )

      by : (allow_plus : Bool) → AfterType allow_plus rest (mark (ch ∷ []) span ++ tail)
      by true = (path, never is_plus rest (mark (ch ∷ []) span ++ tail) (rw (mark_of-mark ch [] span tail) plus))
      by false = (path, tt)

pub type_before-equals : (allow_plus : Bool) (rest tail : Trees) (span : Span) → is_equals rest ≡ true → AfterType allow_plus rest (mark (codes "=") span ++ tail)
type_before-equals allow_plus rest tail span is = type_before-kept 61 refl refl span rest tail (λ h. is) (never is_colon rest (mark (codes "=") span ++ tail) (rw (mark_of-mark 61 [] span tail) refl)) allow_plus

pub type_before-colon : (allow_plus : Bool) (rest tail : Trees) (span : Span) → is_colon rest ≡ true → AfterType allow_plus rest (mark (codes ":") span ++ tail)
type_before-colon allow_plus rest tail span is = type_before-kept 58 refl refl span rest tail (never is_equals rest (mark (codes ":") span ++ tail) (rw (mark_of-mark 58 [] span tail) refl)) (λ h. is) allow_plus

-- ---- lifetimes

pub lifetime-back : RoundTrips erased_lifetime lifetime Open Any (take_as lifetime_of)
lifetime-back = record {
  of = λ input after found e.
      let one = exact.of input after found e in
      record { again = λ tail last f. let more = one.again tail last f in record { value = more.value; new = more.new; is = more.is; same = ap erased_lifetime more.same }; first = one.first };
}
  where
    exact : Printed (λ (it : Lifetime). it) (λ it. tree.Lifetime it ∷ []) Open Any (take_as lifetime_of) (take_as lifetime_of)
    exact = take_as-printed lifetime_of tree.Lifetime (λ rest tail it is. lifetime_of-Lifetime it tail) (λ input tail it is f. (refl, rw (mark_of-Lifetime it tail) refl))

-- `'a + 'b`
pub lifetimes-back : (span : Span) → RoundTrips (map erased_lifetime) (λ found. sum_of (map lifetime found) span) Open (AfterType true) lifetimes
lifetimes-back span = joined-printed erased_lifetime lifetime 1 is_plus (plus span) (mark-length (codes "+") span) (λ tail. rw (mark_of-mark 43 [] span tail) refl) (take_as lifetime_of) (take_as lifetime_of) (AfterType true)
    lifetime-back (λ rest tail f. f.0) (λ rest. tt) (λ rest next tail seen f. tt) (λ rest tail seen f. (keep-false is_plus rest tail seen f.1, tt))

some-bounds : {A : Type 0} (print : A → Trees) (found : List A) (span : Span) → 1 ≤ length found → maybe_bounds (map print found) span ≡ mark (codes ":") span ++ sum_of (map print found) span
some-bounds print [] span h = absurd (omega (arith, h))
some-bounds print (it ∷ found) span h = refl

no-colon : (rest tail : Trees) → is_colon rest ≡ false → AfterType true rest tail → (is_colon tail ≡ false) × Any rest tail
no-colon rest tail is f = (keep-false is_colon rest tail is f.0.1.colon, tt)

outlived-back : (span : Span) → RoundTrips (map erased_lifetime) (λ found. maybe_bounds (map lifetime found) span) Any (AfterType true) outlived
outlived-back span = behind-printed is_colon 58 span [] (λ tail. colon-mark tail span) refl
    (λ input after found e. some-bounds lifetime found span (joined-some (eat 1 is_plus) (take_as lifetime_of) (length input.rest) [] input after found e)) (lifetimes-back span)
    (λ rest tail is. tt) no-colon

-- ---- what begins a parameter

lifetime-word : (trees : Trees) (it : Lifetime) → lifetime_of trees ≡ Some it → next_word trees ≡ word.None
unfolding lifetime_of next_word ident_of
lifetime-word [] it is = absurd cc
lifetime-word (tree ∷ trees) it is = by (out-TokenTree tree) refl
  where
    by : (layer : Layer) → out-TokenTree tree ≡ layer → word_at (ident_in (out-TokenTree tree)) ≡ word.None
    by (TokenTree-F.Lifetime other) same = rw same refl
    by (TokenTree-F.Ident other) same = let none = rw same at is in absurd cc
    by (TokenTree-F.Punct other) same = let none = rw same at is in absurd cc
    by (TokenTree-F.Literal other) same = let none = rw same at is in absurd cc
    by (TokenTree-F.Group other) same = let none = rw same at is in absurd cc

-- a word is no lifetime
word-lifetime : (trees : Trees) → is_word word.Const (next_word trees) ≡ true → lifetime_of trees ≡ None
unfolding lifetime_of next_word ident_of
word-lifetime [] is = refl
word-lifetime (tree ∷ trees) is = by (out-TokenTree tree) refl
  where
    by : (layer : Layer) → out-TokenTree tree ≡ layer → lifetime_in (out-TokenTree tree) ≡ None
    by (TokenTree-F.Lifetime other) same = let none = rw same at is in absurd cc
    by (TokenTree-F.Ident other) same = rw same refl
    by (TokenTree-F.Punct other) same = rw same refl
    by (TokenTree-F.Literal other) same = rw same refl
    by (TokenTree-F.Group other) same = rw same refl

name-lifetime : (trees : Trees) (it : Ident) → name_of trees ≡ Some it → lifetime_of trees ≡ None
unfolding lifetime_of name_of next_word ident_of
name-lifetime [] it is = refl
name-lifetime (tree ∷ trees) it is = by (out-TokenTree tree) refl
  where
    by : (layer : Layer) → out-TokenTree tree ≡ layer → lifetime_in (out-TokenTree tree) ≡ None
    by (TokenTree-F.Lifetime other) same = let none = rw same at is in absurd cc
    by (TokenTree-F.Ident other) same = rw same refl
    by (TokenTree-F.Punct other) same = rw same refl
    by (TokenTree-F.Literal other) same = rw same refl
    by (TokenTree-F.Group other) same = rw same refl

name-next : (trees : Trees) (it : Ident) → name_of trees ≡ Some it → next_word trees ≡ word.Name
unfolding name_of
name-next trees it is = by (next_word trees) is
  where
    by : (found : Word) → name_at found (ident_of trees) ≡ Some it → found ≡ word.Name
    by word.Name h = refl
    by _ h = absurd cc

lifetime-param : (rest tail : Trees) (it : Lifetime) → lifetime_of rest ≡ Some it → BeginsParam rest (tree.Lifetime it ∷ tail)
lifetime-param rest tail it is = record {
  lifetime = rw (lifetime_of-Lifetime it tail, is) refl;
  constant = rw (lifetime-word rest it is, lifetime-word (tree.Lifetime it ∷ tail) it (lifetime_of-Lifetime it tail)) refl;
  hash = rw (mark_of-Lifetime it tail) refl;
  greater = rw (mark_of-Lifetime it tail) refl;
  some = refl;
}

name-param : (rest tail : Trees) (it : Ident) → name_of rest ≡ Some it → BeginsParam rest (tree.Ident it ∷ tail)
unfolding mark_of
name-param rest tail it is = record {
  lifetime = rw (name-lifetime rest it is, name-lifetime (tree.Ident it ∷ tail) it (name_of-Ident rest tail it is)) refl;
  constant = rw (next_word-Ident it tail, name-word rest it is, name-next rest it is) refl;
  hash = rw (out-Ident it) refl;
  greater = rw (out-Ident it) refl;
  some = refl;
}

const-param : (rest tail : Trees) (span : Span) → peek word.Const rest ≡ true → BeginsParam rest (printed_word (codes "const") span ++ tail)
unfolding printed_word
const-param rest tail span is = record {
  lifetime = rw (lifetime_of-word (codes "const") span tail, word-lifetime rest is) refl;
  constant = rw (sees-const span tail, is) refl;
  hash = rw (mark_of-word (codes "const") span tail) refl;
  greater = rw (mark_of-word (codes "const") span tail) refl;
  some = refl;
}

hash-open : (rest tail : Trees) → is_mark 35 tail ≡ true → Open rest tail
unfolding mark_of
hash-open rest [] is = absurd cc
hash-open rest (tree ∷ trees) is = (refl, rw (eqb-true (mark_of (tree ∷ trees)) 35 is) refl)

-- parameters, with where they stand
abbrev pub Params : Type 0
Params = List GenericParam × Span

abbrev pub erased_params : Params → List GenericParam
erased_params found = map erased_generic_param found.0

abbrev pub params_tokens : Params → Trees
params_tokens found = unless_empty found.0 (angled (map param_tokens found.0) found.1)

module _ (parts : AllRoundTrip (within max_depth)) where
  -- `A + 'b`
  pub bounds_here-back : (span : Span) → RoundTrips (map erased_bound) (λ found. sum_of (map bound_tokens found) span) NotEnded (AfterType true) bounds
  unfolding Rattle.syn_grammar.specs.Paths.bounds
  bounds_here-back span = bounds-back (within max_depth) parts true span

  pub bounds-some : (input after : Input) (found : List TypeParamBound) → bounds input ≡ Some (found, after) → 1 ≤ length found
  unfolding joined_bounds
  bounds-some input after found e = joined-some (eat 1 is_plus) (one_bound (within max_depth)) (length input.rest) [] input after found e

  bounded-back : (span : Span) → RoundTrips (map erased_bound) (λ found. maybe_bounds (map bound_tokens found) span) Any (AfterType true) bounded
  bounded-back span = behind-printed is_colon 58 span [] (λ tail. colon-mark tail span) refl (λ input after found e. some-bounds bound_tokens found span (bounds-some input after found e)) (bounds_here-back span)
      (λ rest tail is. tt) no-colon

  no-equals : (rest tail : Trees) → is_equals rest ≡ false → AfterType true rest tail → (is_equals tail ≡ false) × AfterType true rest tail
  no-equals rest tail is f = (keep-false is_equals rest tail is f.0.1.equals, f)

  type_default-back : (span : Span) → RoundTrips (option_map erased_type) (λ found. maybe_equal (option_map type_tokens found) span) (AfterType true) (AfterType true) type_default
  type_default-back span = default-printed span (parts.ty true) (λ rest tail is. type_before-equals true rest tail span is) no-equals

  -- ---- constants

  name-no-constant : (rest tail : Trees) (it : Ident) → name_of rest ≡ Some it → begins_constant (tree.Ident it ∷ tail) ≡ false
  unfolding begins_constant literal_of is_group next_word ident_of
  name-no-constant rest tail it is = rw (out-Ident it, name-word rest it is) refl

  print-name : (it : Ident) → expr_tokens (expr_of_name it) ≡ tree.Ident it ∷ []
  print-name it = print-expr_path (path_of_word it) it.span ∙ print-word it Turbofish

  constant_by : (constant : Bool) → Rest {P = Unit {0}} {Q = Unit {0}} Free erased_expr expr_tokens hole (λ rest tail. begins_constant tail ≡ constant) (AfterType true) (if constant then expr_at constant_level else expr_of_name <$> take_as name_of) (λ q. if constant then expr_at constant_level else expr_of_name <$> take_as name_of)
  constant_by true = shown-rest tt (λ it. refl) (weak-printed (λ rest tail f other. absurd cc) (λ rest tail f. f.begins) (parts.expr constant_level))
  constant_by false = take_as-rest {Second = AfterType true} name_of tree.Ident (λ rest tail it is. name_of-Ident rest tail it is) (λ it. pure-rest tt (expr_of_name it) (λ q. expr_of_name it) (print-name it) (λ q ok. refl))
      (λ input tail it is f. name-no-constant input.rest tail it is)

  const_value-back : RoundTrips erased_expr expr_tokens Any (AfterType true) const_value
  unfolding const_value
  const_value-back = whole (test-rest {by = λ constant rest tail. begins_constant tail ≡ constant} begins_constant constant_by (λ constant rest tail is f. (f, tt)))

  const_default-back : (span : Span) → RoundTrips (option_map erased_expr) (λ found. maybe_equal (option_map expr_tokens found) span) (AfterType true) (AfterType true) const_default
  const_default-back span = default-printed span const_value-back (λ rest tail is. type_before-equals true rest tail span is) no-equals

  -- ---- one parameter

  -- what was bound: where the parameter starts, and its attributes
  abbrev Env : Type 0
  Env = (Unit {0} × Span) × List Attribute

  module _ (start : Span) (attrs : List Attribute) where
    abbrev Bound : Env → Type 0
    Bound q = Unit {0} × (map erased_attribute q.1 ≡ map erased_attribute attrs)

    abbrev ParamRest : Parser GenericParam → (Env → Parser GenericParam) → Type 0
    ParamRest parser others = Rest {P = Span} {Q = Env} Bound erased_generic_param param_tokens (λ place tokens. attributes_tokens attrs ++ tokens) BeginsParam AfterParam parser others

    lifetime_param-rest : ParamRest (lifetime_param start attrs) (λ q. lifetime_param q.0.1 q.1)
    unfolding lifetime_param
    lifetime_param-rest = take_as-rest {Second = Any} lifetime_of tree.Lifetime (λ rest tail it is. lifetime_of-Lifetime it tail) (λ it.
        then-rest {Second = AfterType true} (λ place. outlived-back place) (λ longer. close-rest start (λ q. q.0.0.1)
        (λ span. param.Lifetime (record { attrs = attrs; lifetime = it; bounds = longer; span = span })) (λ q span. param.Lifetime (record { attrs = q.0.1; lifetime = it; bounds = q.1; span = span }))
        (λ span. rw (append-nil, append_assoc) refl) (λ span other q ok. rw (ok.0.1, ok.1) refl))
        (λ rest tail f. f) (λ rest tail f. tt))
        (λ input tail it is f. lifetime-param input.rest tail it is)

    type_param-rest : Rest {P = Span} {Q = Env} Bound erased_type_param type_param_tokens (λ place tokens. attributes_tokens attrs ++ tokens) BeginsParam AfterParam (type_param start attrs) (λ q. type_param q.0.1 q.1)
    unfolding type_param
    type_param-rest = take_as-rest {Second = Any} name_of tree.Ident (λ rest tail it is. name_of-Ident rest tail it is) (λ it.
        then-rest {Second = AfterType true} (λ place. bounded-back place) (λ found.
        then-rest {Second = AfterType true} (λ place. type_default-back place) (λ default. close-rest start (λ q. q.0.0.0.1)
        (λ span. record { attrs = attrs; ident = it; bounds = found; default = default; span = span }) (λ q span. record { attrs = q.0.0.1; ident = it; bounds = q.0.1; default = q.1; span = span })
        (λ span. rw (append-nil, append_assoc, append_assoc) refl) (λ span other q ok. rw (ok.0.0.1, ok.0.1, ok.1) refl))
        (λ rest tail f. f) (λ rest tail f. f))
        (λ rest tail f. f) (λ rest tail f. tt))
        (λ input tail it is f. name-param input.rest tail it is)

    const_param-rest : ParamRest (const_param start attrs) (λ q. const_param q.0.1 q.1)
    unfolding const_param
    const_param-rest = expect-rest {Second = Any} 1 (peek word.Const) (λ place. printed_word (codes "const") place) (word-length (codes "const")) (λ place tail. rw (sees-const place tail) refl)
        (take_as-rest {Second = Any} name_of tree.Ident (λ rest tail it is. name_of-Ident rest tail it is) (λ it.
        expect-rest {Second = BeginsType} 1 is_colon (λ place. mark (codes ":") place) (mark-length (codes ":")) (λ place tail. colon-mark tail place)
        (then-rest {Second = AfterType true} (λ place. parts.ty true) (λ ty.
        then-rest {Second = AfterType true} (λ place. const_default-back place) (λ default. close-rest start (λ q. q.0.0.0.1)
        (λ span. param.Const (record { attrs = attrs; ident = it; ty = ty; default = default; span = span })) (λ q span. param.Const (record { attrs = q.0.0.1; ident = it; ty = q.0.1; default = q.1; span = span }))
        (λ span. rw (append-nil, append_assoc, append_assoc, append_assoc, append_assoc) refl) (λ span other q ok. rw (ok.0.0.1, ok.0.1, ok.1) refl))
        (λ rest tail f. f) (λ rest tail f. f))
        (λ rest tail f. f) (λ rest tail f. f))
        (λ input tail place seen f. tt))
        (λ input tail it is f. tt))
        (λ input tail place seen f. const-param input.rest tail place seen)

    param_by-rest : (lifetime constant : Bool) → ParamRest (param_by start attrs lifetime constant) (λ q. param_by q.0.1 q.1 lifetime constant)
    param_by-rest true constant = lifetime_param-rest
    param_by-rest false true = const_param-rest
    param_by-rest false false = made-rest param.Ty (λ it. refl) (λ one other same. ap param.Ty same) type_param-rest

  pub generic_param-back : RoundTrips erased_generic_param param_tokens Open AfterParam generic_param
  unfolding generic_param
  generic_param-back = whole (here-rest (λ start. then-rest {Second = BeginsParam} (λ (place : Span). attributes-back parts Open hash-open) (λ attrs.
      test-rest {by = λ lifetime. BeginsParam} (λ trees. is_there (lifetime_of trees)) (λ lifetime. test-rest {by = λ constant. BeginsParam} (peek word.Const) (λ constant. param_by-rest start attrs lifetime constant)
      (λ constant rest tail is f. (f.constant ∙ is, f))) (λ lifetime rest tail is f. (f.lifetime ∙ is, f)))
      (λ rest tail f. (never (is_mark 35) rest tail f.hash, (f.some, f.greater))) (λ rest tail f. f)))

  pub one_type_param-back : RoundTrips erased_type_param type_param_tokens Open AfterParam one_type_param
  unfolding one_type_param
  one_type_param-back = whole (here-rest (λ start. then-rest {Second = BeginsParam} (λ (place : Span). attributes-back parts Open hash-open) (λ attrs. type_param-rest start attrs)
      (λ rest tail f. (never (is_mark 35) rest tail f.hash, (f.some, f.greater))) (λ rest tail f. f)))

  -- ---- all parameters

  abbrev inner_tokens : Span → List GenericParam → Trees
  inner_tokens span found = joined (comma span) (map param_tokens found) ++ mark (codes ">") span

  inner-back : (span : Span) → RoundTrips (map erased_generic_param) (inner_tokens span) Any Any params_in_angles
  inner-back span = until-printed erased_generic_param param_tokens 62 refl generic_param generic_param generic_param-back (λ rest tail f. f)
      (λ rest tail span. type_before-mark 44 refl refl refl refl span rest tail true) (λ rest tail span. type_before-mark 62 refl refl refl refl span rest tail true) span

  -- nothing is printed where there are none
  none-read : (span : Span) → Reads erased_params (λ tail. Unit {0}) (λ tail. is_less tail ≡ false) params [] ([], span)
  unfolding params after_eat
  none-read span = record { again = λ tail last f. record { value = ([], CallSite); new = last; is = rw f refl; same = refl }; first = λ tail f. tt }

  some-read : (it : GenericParam) (found : List GenericParam) (span : Span) → Reads (map erased_generic_param) (λ tail. Unit {0}) (λ tail. Unit {0}) params_in_angles (inner_tokens span (it ∷ found)) (it ∷ found)
      → Reads erased_params (λ tail. Unit {0}) (λ tail. is_less tail ≡ false) params (params_tokens (it ∷ found, span)) (it ∷ found, span)
  unfolding params after_eat
  some-read it found span one = record { again = λ tail last f. read tail last; first = λ tail f. tt }
    where
      flat : (tail : Trees) → params_tokens (it ∷ found, span) ++ tail ≡ mark (codes "<") span ++ (inner_tokens span (it ∷ found) ++ tail)
      flat tail = angled-flat (map param_tokens (it ∷ found)) span tail

      read : (tail : Trees) (last : Span) → Again erased_params params (at (params_tokens (it ∷ found, span) ++ tail) last) tail (it ∷ found, span)
      read tail last =
          let less = skipped-over 1 (mark (codes "<") span) (inner_tokens span (it ∷ found) ++ tail) last (mark-length (codes "<") span) in
          let more = one.again tail less.0 tt in
          record {
            value = (more.value, joined_spans (first_span (mark (codes "<") span ++ (inner_tokens span (it ∷ found) ++ tail))) more.new);
            new = more.new;
            is = rw (flat tail, mark_of-mark 60 [] span (inner_tokens span (it ∷ found) ++ tail), less.1, more.is) refl;
            same = more.same;
          }

  pub params-back : RoundTrips erased_params params_tokens Any AfterParams params
  unfolding params after_eat
  params-back = record { of = λ input after found e. by input after found (is_less input.rest) e }
    where
      listed : (items : List GenericParam) (span : Span) → Reads (map erased_generic_param) (λ tail. Unit {0}) (λ tail. Unit {0}) params_in_angles (inner_tokens span items) items
          → Reads erased_params (λ tail. Unit {0}) (λ tail. is_less tail ≡ false) params (params_tokens (items, span)) (items, span)
      listed [] span one = none-read span
      listed (it ∷ items) span one = some-read it items span one

      by : (input after : Input) (found : Params) (opened : Bool)
          → (if opened then params_in_angles >>= (λ items. upto (first_span input.rest) >>= (λ span. pure (items, span))) else pure ([], CallSite)) (after_eat 1 opened input) ≡ Some (found, after)
          → Reads erased_params (λ tail. Unit {0}) (λ tail. is_less tail ≡ false) params (params_tokens found) found
      by input after found true e =
          let inside = bind-at (params_in_angles (skipped 1 input)) (λ items. upto (first_span input.rest) >>= (λ span. pure (items, span))) found after e in
          let span = joined_spans (first_span input.rest) inside.1.last in
          rw (← (some_pair_parts (inside.0, span) found inside.1 after inside.3).0) (listed inside.0 span ((inner-back span).of (skipped 1 input) inside.1 inside.0 inside.2))
      by input after found false e = rw (← (some_pair_parts ([], CallSite) found input after e).0) (none-read CallSite)
