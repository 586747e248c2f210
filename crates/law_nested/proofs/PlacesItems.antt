-- One nested item stands where its tokens do.
use Rattle.std.proofs.Common.{◌≡◌, ℕ, Bool, true, false, if◌then◌else◌, List, [], ◌∷◌, ◌++◌, length, Option, Some, None, refl, arith, ap, sym, subst, ◌∙◌, append_assoc}
use Rattle.std.proofs.lemmas.Bool.{both_ways}
use Rattle.std.proofs.lemmas.Option.{some_pair_parts}
use Rattle.tok_types.specs.Span.{joined}
use Rattle.tok_types.specs.declared.span.Span.{Span}
use Rattle.tok_types.specs.declared.tree.Delimiter.{Delimiter}
use Rattle.tok_types.specs.declared.tree.TokenStream.{out-TokenStream, the_lemmas}
use Rattle.tok_types.specs.declared.tree.TokenTree.{TokenTree}
use Rattle.node_expr.specs.declared.expr.Expr.{Expr}
use Rattle.node_expr.specs.declared.path.Path.{Path}
use Rattle.node_core.specs.declared.attr.Meta.TheVariants as meta
use Rattle.node_span.specs.Spanned.{lit_span, meta_span, path_span, tree_span}
use Rattle.syn_grammar.specs.declared.word.Word.{Word}
use Rattle.syn_grammar.specs.declared.word.Word.TheVariants as word
use Rattle.syn_grammar.specs.Input.{Input, Parser, ◌>>=◌, ◌<$>◌, pure, first_span, upto, next, skipped}
use Rattle.syn_grammar.specs.Literals.{lit_of}
use Rattle.syn_grammar.specs.Token.{ident_of, is_comma, is_equals, literal_of, mark_of}
use Rattle.syn_grammar.specs.Words.{next_word}
use Rattle.tok_types.specs.Stream.{stream_of}
use Rattle.syn_items.specs.Attributes.{delimiter_of}
use Rattle.meta_nested.specs.declared.item.Found.{Found}
use Rattle.meta_nested.specs.declared.item.Found.TheVariants as made
use Rattle.meta_nested.specs.declared.item.ItemStart.{ItemStart}
use Rattle.meta_nested.specs.declared.item.ItemStart.TheVariants as begin
use Rattle.meta_nested.specs.declared.nested.NestedMeta.TheVariants as nested
use Rattle.meta_nested.specs.declared.value.Value.{Value}
use Rattle.meta_nested.specs.declared.value.Value.TheVariants as kind
use Rattle.meta_nested.specs.Nested.{bool_of, boolean, literal, as_lit, with_value, is_attribute, attribute_item, value_item, name_value, path_by, path_item, item_start, item_by, item}
use Rattle.meta_nested.specs.Values.{shortest_run, before_comma, bad_place, bad_value, value_by, value}
use Rattle.law_prefix.proofs.Steps.{bind-at}
use Rattle.law_places.specs.Stands.{ReadThere, StandsAt}
use Rattle.law_places.proofs.Commas.{ReadAs, ReadsAs}
use Rattle.law_places.proofs.Onward.{Stood, StoodHere, here-stood, moved-shorter, next-less, took-stood, literal-none}
use Rattle.law_places.proofs.Steps.{Moved, GoesAt, moved-none, moved-on, once-at, pure-at, then-at, so-at, if-at, seen-at, seen_is-at, skip-at, skip_by-at, behind_one, same_place, same-end}
use Rattle.law_places.proofs.Tokens.{lit_of-place, literal-place}
use Rattle.law_places.proofs.Wholes.{read-there}
use Rattle.law_places_items.proofs.Attributes.{meta_list-on, meta_path-stood, signed-stood}
use Rattle.law_places_items.proofs.Lists.{take_all-at}
use Rattle.law_nested.specs.Places.{NestedStands}

-- an item stands there; of an attribute nothing is said
abbrev pub FoundStands : List TokenTree → Found → Type 0
FoundStands read (made.Item it) = NestedStands read it
FoundStands read (made.Attribute place) = Unit {0}

-- what was found was read from these tokens
abbrev Reads : Input → Found → Input → Type 0
Reads input found after = ReadAs FoundStands input after found

-- what is made of a value that stands from there on
made-at : {A : Type 0} {span_of : A → Span} {parser : Parser A} (make : A → Found) (origin input : Input) → Moved origin input → GoesAt (Stood span_of (first_span origin.rest) (length origin.rest)) parser input
    → ((read : List TokenTree) (it : A) → StandsAt span_of read it → FoundStands read (make it)) → GoesAt (Reads origin) (make <$> parser) input
made-at {parser = parser} make origin input moved h keeps = record {
  of = λ after found e.
      let parts = bind-at (parser input) (λ value. pure (make value)) found after e in
      let went = h.of parts.1 parts.0 parts.2 in
      let there = read-there origin parts.1 parts.0 (moved-on origin input parts.1 moved went.0) went.1 in
      let both = some_pair_parts (make parts.0) found parts.1 after parts.3 in
      same-end (λ it end. Moved input end × Reads origin it end) (make parts.0) found parts.1 after both.0 both.1 (went.0, record { read = there.read; is = there.is; there = keeps there.read parts.0 there.there });
}

-- how far a parser went, beside what is said
moved-at : {A : Type 0} {says : A → Input → Type 0} {parser : Parser A} {input : Input} → GoesAt says parser input → GoesAt (λ found after. says found after × Moved input after) parser input
moved-at h = record { of = λ after found e. let went = h.of after found e in (went.0, (went.1, went.0)) }

-- ---- literals

literal-stood : StoodHere lit_span literal
unfolding literal
literal-stood = took-stood literal_of literal-none lit_of (λ trees token e. lit_of-place token ∙ literal-place trees token e)

bool_of-span : (which : Word) (span : Span) → lit_span (bool_of which span) ≡ span
bool_of-span word.True span = refl
bool_of-span _ span = refl

boolean-stood : (input : Input) → (input.rest ≡ [] → ⊥) → GoesAt (Stood lit_span (first_span input.rest) (length input.rest)) boolean input
unfolding boolean
boolean-stood input some = here-stood (λ span is. seen-at next_word (λ which. then-at (skip-at input) (λ mark later h.
    let less = next-less input some in
    pure-at (bool_of which span) later (record { is = bool_of-span which span ∙ behind_one span input later is h.left; less = rw h.left less }))))

start-none : item_start [] ≡ begin.Path
unfolding literal_of next_word ident_of mark_of
start-none = refl

-- ---- values

before-front : (trees : List TokenTree) → (rest : List TokenTree) × (trees ≡ before_comma trees ++ rest)
before-front [] = ([], refl)
before-front (tree ∷ trees) = go (is_comma (tree ∷ trees)) (before-front trees)
  where
    go : (b : Bool) → (rest : List TokenTree) × (trees ≡ before_comma trees ++ rest) → (rest : List TokenTree) × (tree ∷ trees ≡ (if b then [] else tree ∷ before_comma trees) ++ rest)
    go true more = (tree ∷ trees, refl)
    go false more = (more.0, ap (λ trees. tree ∷ trees) more.1)

skipped-front : (read rest : List TokenTree) (last : Span) → (skipped (length read) (record { rest = read ++ rest; last = last })).rest ≡ rest
unfolding skipped next
skipped-front [] rest last = refl
skipped-front (tree ∷ trees) rest last = skipped-front trees rest _

-- what is kept of a bad value is all up to the next comma
record Kept (eq_span : Span) (input : Input) (it : Value) (after : Input) : Type 0 where
  is : it ≡ kind.Bad (stream_of (before_comma input.rest)) (bad_place eq_span (before_comma input.rest))
  rest : input.rest ≡ before_comma input.rest ++ after.rest

bad_value-at : (eq_span : Span) (input : Input) → GoesAt (Kept eq_span input) (bad_value eq_span) input
unfolding bad_value
bad_value-at eq_span input = record {
  of = λ after found e.
      let went = (so-at (skip_by-at (length (before_comma input.rest)) input) (λ done later. pure-at {says = λ it end. Unit {0}} (kind.Bad (stream_of (before_comma input.rest)) (bad_place eq_span (before_comma input.rest))) later tt)).of after found e in
      let both = some_pair_parts (kind.Bad (stream_of (before_comma input.rest)) (bad_place eq_span (before_comma input.rest))) found (skipped (length (before_comma input.rest)) input) after e in
      let front = before-front input.rest in
      let left : (skipped (length (before_comma input.rest)) input).rest ≡ front.0 = ap (λ trees. (skipped (length (before_comma input.rest)) (record { rest = trees; last = input.last })).rest) front.1 ∙ skipped-front (before_comma input.rest) front.0 input.last in
      let behind : after.rest ≡ front.0 = ap (λ (input : Input). input.rest) (sym both.1) ∙ left in
      (went.0, record { is = sym both.0; rest = front.1 ∙ ap (λ rest. before_comma input.rest ++ rest) (sym behind) });
}

-- ---- items that begin with a path

-- a path that was read, and what is left behind it
record Behind (origin : Input) (path : Path) (input : Input) : Type 0 where
  moved : Moved origin input
  stood : Stood path_span (first_span origin.rest) (length origin.rest) path input
  there : ReadThere path_span origin input path

-- a token behind a path
record Equals (input : Input) (eq_span : Span) (later : Input) : Type 0 where
  tree : TokenTree
  is : input.rest ≡ tree ∷ later.rest
  place : tree_span tree ≡ eq_span
  moved : Moved input later

equals-at : (input : Input) (later : Input) → is_equals input.rest ≡ true → Moved input later → later ≡ next input → Equals input (first_span input.rest) later
unfolding first_span next mark_of
equals-at input later there moved left = go input.rest input.last there left moved
  where
    go : (trees : List TokenTree) (last : Span) → is_equals trees ≡ true → later ≡ next (record { rest = trees; last = last }) → Moved (record { rest = trees; last = last }) later → Equals (record { rest = trees; last = last }) (first_span trees) later
    go [] last there left moved = absurd (both_ways _ refl there)
    go (tree ∷ trees) last there left moved = record { tree = tree; is = ap (λ (input : Input). tree ∷ input.rest) (sym left); place = sym (same_place tree); moved = moved }

-- an attribute
attribute_item-at : (origin input : Input) → Moved origin input → GoesAt (Reads origin) attribute_item input
unfolding attribute_item
attribute_item-at origin input moved = record {
  of = λ after found e.
      let went = (seen-at first_span (λ place. so-at (take_all-at input) (λ all later. pure-at {says = λ it end. (place : Span) × (it ≡ made.Attribute place)} (made.Attribute place) later (place, refl)))).of after found e in
      let on = moved-on origin input after moved went.0 in
      (went.0, record { read = on.read; is = on.is; there = subst (λ (it : Found). FoundStands on.read it) (sym went.1.1) tt });
}

-- a value behind a path and a `=`, each from the start of the path
module _ (origin : Input) (path : Path) (input : Input) (behind : Behind origin path input) (eq_span : Span) (later : Input) (equals : Equals input eq_span later) where
  -- it has that value
  good-at : (run : Expr × ℕ) → GoesAt (Reads origin) (value_by eq_span (Some run) >>= (λ it. upto (first_span origin.rest) >>= (λ span. pure (made.Item (with_value path eq_span span it))))) later
  good-at run = record {
    of = λ after found e.
        let went = (so-at {said = λ found end. found ≡ made.Item (with_value path eq_span (joined (first_span origin.rest) end.last) (kind.Expr run.0))} (skip_by-at run.1 later) (λ done end. once-at end (made.Item (with_value path eq_span (joined (first_span origin.rest) end.last) (kind.Expr run.0))) end refl (moved-none end) refl)).of after found e in
        let on = moved-on origin input after behind.moved (moved-on input later after equals.moved went.0) in
        let one = moved-shorter input later equals.moved in
        let two = moved-shorter later after went.0 in
        let less = behind.stood.less in
        let there = read-there {span_of = meta_span} origin after (meta.NameValue (record { path = path; eq_span = eq_span; value = run.0; span = joined (first_span origin.rest) after.last })) on (record { is = refl; less = omega arith }) in
        (went.0, record { read = there.read; is = there.is; there = subst (λ (it : Found). FoundStands there.read it) (sym went.1) there.there });
  }

  -- it has no value: what is left up to the next comma is kept
  bad-at : GoesAt (Reads origin) (value_by eq_span None >>= (λ it. upto (first_span origin.rest) >>= (λ span. pure (made.Item (with_value path eq_span span it))))) later
  bad-at = record {
    of = λ after found e.
        let parts = bind-at (value_by eq_span None later) (λ it. upto (first_span origin.rest) >>= (λ span. pure (made.Item (with_value path eq_span span it)))) found after e in
        let went = (bad_value-at eq_span later).of parts.1 parts.0 parts.2 in
        let both = some_pair_parts (made.Item (with_value path eq_span (joined (first_span origin.rest) parts.1.last) parts.0)) found parts.1 after parts.3 in
        let values : List TokenTree = before_comma later.rest in
        let whole : origin.rest ≡ (behind.there.read ++ equals.tree ∷ values) ++ after.rest =
        behind.there.is ∙ ap (λ trees. behind.there.read ++ trees) (equals.is ∙ ap (λ trees. equals.tree ∷ trees) (went.1.rest ∙ ap (λ (input : Input). values ++ input.rest) both.1))
        ∙ sym (append_assoc behind.there.read (equals.tree ∷ values) after.rest) in
        let contents : (out-TokenStream (stream_of values)).trees ≡ values = search the_lemmas in
        let item : made.Item (with_value path eq_span (joined (first_span origin.rest) parts.1.last) (kind.Bad (stream_of values) (bad_place eq_span values))) ≡ found =
        ap (λ (it : Value). made.Item (with_value path eq_span (joined (first_span origin.rest) parts.1.last) it)) (sym went.1.is) ∙ both.0 in (
          subst (λ (end : Input). Moved later end) both.1 went.0,
          record {
            read = behind.there.read ++ equals.tree ∷ values;
            is = whole;
            there = subst (λ (it : Found). FoundStands (behind.there.read ++ equals.tree ∷ values) it) item (record {
              of_path = behind.there.read;
              equals = equals.tree;
              is = ap (λ trees. behind.there.read ++ equals.tree ∷ trees) (sym contents);
              path = behind.there.there;
              eq = equals.place;
            });
          },
        );
  }

  value_item-at : GoesAt (Reads origin) (value_item (first_span origin.rest) path eq_span) later
  unfolding value_item value
  value_item-at = record { of = (go (shortest_run later.rest)).of }
    where
      go : (run : Option (Expr × ℕ)) → GoesAt (Reads origin) (value_by eq_span run >>= (λ it. upto (first_span origin.rest) >>= (λ span. pure (made.Item (with_value path eq_span span it))))) later
      go (Some run) = good-at run
      go None = bad-at

name_value-at : (origin : Input) (path : Path) (input : Input) → Behind origin path input → is_equals input.rest ≡ true → GoesAt (Reads origin) (name_value (first_span origin.rest) path) input
unfolding name_value
name_value-at origin path input behind there = record {
  of = λ after found e.
      let went = (then-at (moved-at (skip-at input)) (λ mark later s.
      let equals = equals-at input later there s.1 s.0.left in
      seen-at is_attribute (λ attribute. if-at attribute (attribute_item-at origin later (moved-on origin input later behind.moved s.1)) (value_item-at origin path input behind (first_span input.rest) later equals)))).of after found e in
      went;
}

path_by-at : (origin : Input) (path : Path) (input : Input) → Behind origin path input → (between : Option Delimiter) → GoesAt (Reads origin) (path_by (first_span origin.rest) path between) input
path_by-at origin path input behind (Some between) =
    made-at (λ it. made.Item (nested.Meta it)) origin input behind.moved (meta_list-on (first_span origin.rest) (length origin.rest) path between input behind.stood.less) (λ read it h. h)
path_by-at origin path input behind None = seen_is-at is_equals by
  where
    by : (equals : Bool) → is_equals input.rest ≡ equals → GoesAt (Reads origin) (if equals then name_value (first_span origin.rest) path else pure (made.Item (nested.Meta (meta.Path path)))) input
    by true is = name_value-at origin path input behind is
    by false is = pure-at (made.Item (nested.Meta (meta.Path path))) input (record {
      read = behind.there.read;
      is = behind.there.is;
      there = record { some = behind.there.there.some; stands = behind.there.there.stands };
    })

path_item-at : (input : Input) → GoesAt (Reads input) path_item input
unfolding path_item
path_item-at input = record {
  of = λ after found e.
      let went = (then-at (moved-at (meta_path-stood input)) (λ path later s.
      let behind : Behind input path later = record { moved = s.1; stood = s.0; there = read-there input later path s.1 s.0 } in
      seen-at delimiter_of (λ between. path_by-at input path later behind between))).of after found e in
      went;
}

-- ---- one item

item_by-at : (input : Input) (begins : ItemStart) → item_start input.rest ≡ begins → GoesAt (Reads input) (item_by begins) input
item_by-at input begin.Literal is = made-at as_lit input input (moved-none input) (literal-stood input) (λ read it h. h)
item_by-at input begin.Boolean is =
    let some : input.rest ≡ [] → ⊥ = λ none. let other : begin.Path ≡ begin.Boolean = sym start-none ∙ ap item_start (sym none) ∙ is in absurd cc in
    made-at as_lit input input (moved-none input) (boolean-stood input some) (λ read it h. h)
item_by-at input begin.Minus is = made-at as_lit input input (moved-none input) (signed-stood input) (λ read it h. h)
item_by-at input begin.Path is = path_item-at input

pub item-reads : ReadsAs FoundStands item
unfolding item
item-reads = record { of = λ input after found e. ((seen_is-at item_start (item_by-at input)).of after found e).1 }
