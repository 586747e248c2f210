-- The law of printing for nested items that begin with a path.
use Rattle.std.proofs.Common.{◌≡◌, ℕ, Bool, true, false, if◌then◌else◌, [], ◌∷◌, ◌++◌, length, Option, Some, None, refl, ap, subst, sym, ◌∙◌, append_assoc, append-nil, codes, rules}
use Rattle.std.proofs.lemmas.Option.{some_pair_parts}
use Rattle.tok_types.specs.Span.{joined}
use Rattle.tok_types.specs.declared.span.Span.{Span}
use Rattle.tok_types.specs.declared.span.Span.TheVariants.{CallSite}
use Rattle.tok_types.specs.declared.tree.Delimiter.{Delimiter}
use Rattle.tok_types.specs.declared.tree.TokenTree.{out-TokenTree, the_lemmas}
use Rattle.tok_types.specs.declared.tree.TokenTree.TheOpen.{TokenTree-F}
use Rattle.node_expr.specs.declared.expr.Expr.{Expr}
use Rattle.node_expr.specs.declared.path.Path.{Path}
use Rattle.node_core.specs.declared.attr.Meta.TheVariants as meta
use Rattle.node_core.specs.declared.attr.MetaList.{MetaList}
use Rattle.syn_grammar.specs.Input.{Input, ◌>>=◌, first_span, is_end, next, pure, skipped, test, upto}
use Rattle.syn_grammar.specs.Token.{Layer, contents_of, is_colons, is_equals}
use Rattle.tok_types.specs.Stream.{stream_of}
use Rattle.syn_items.specs.Attributes.{delimiter_of, meta_list, meta_path}
use Rattle.meta_nested.specs.declared.item.Found.{Found}
use Rattle.meta_nested.specs.declared.item.Found.TheVariants as found
use Rattle.meta_nested.specs.declared.item.ItemStart.{ItemStart}
use Rattle.meta_nested.specs.declared.item.ItemStart.TheVariants as start
use Rattle.meta_nested.specs.declared.nested.NestedMeta.TheVariants as nested
use Rattle.meta_nested.specs.declared.value.Value.{Value}
use Rattle.meta_nested.specs.declared.value.Value.TheVariants as kind
use Rattle.meta_nested.specs.Nested.{attribute_item, is_attribute, item, item_start, name_value, path_by, path_item, value_item, with_value}
use Rattle.meta_nested.specs.Values.{bad_place, bad_value, before_comma, shortest_run, value}
use Rattle.print_core.specs.declared.path.PathStyle.TheVariants.{Plain}
use Rattle.print_core.specs.Marks.{Trees, contents, group, mark}
use Rattle.print_core.specs.Nodes.{expr_tokens, path_tokens}
use Rattle.meta_nested.specs.Nodes.{nested_tokens}
use Rattle.law_spans.specs.Erased.{erased_expr, erased_path, erased_stream}
use Rattle.law_nested.specs.Erased.{erased_nested}
use Rattle.law_prefix.specs.ReadsByPrefix.{at}
use Rattle.law_round_trip.specs.Follow.{Keep}
use Rattle.law_round_trip.specs.Printed.{Again, Reads}
use Rattle.law_round_trip.proofs.Follows.{never}
use Rattle.law_round_trip.proofs.Marks.{mark-length, mark_of-mark}
use Rattle.law_round_trip.proofs.Steps.{bind-at}
use Rattle.law_round_trip.proofs.Takes.{contents_of-group, group-length, skipped-over}
use Rattle.law_round_trip_items.specs.Follow.{StartsPath}
use Rattle.law_round_trip_items.proofs.Attributes.{group-grouped, mark-grouped, meta_path-back}
use Rattle.law_round_trip.proofs.Streams.{contents-stream}
use Rattle.law_nested.proofs.Found.{Fits, Good, erased_found, found_tokens}
use Rattle.law_nested.proofs.Bads.{attribute-again, bad-alone, before_comma-again}
use Rattle.law_nested.proofs.Beginnings.{path-starts}
use Rattle.law_nested.proofs.Literals.{ReadsItem, boolean-item, item-at, literal-item, signed-item}
use Rattle.law_nested.proofs.Stops.{Ended}
use Rattle.law_nested.proofs.Values.{run-again}

-- ---- what stands behind the path

-- What is printed behind a path, and read as the same item behind each path that is the same but for places.
record ReadsBehind (path : Path) (rest : Trees) (found : Found) : Type 0 where
  tokens : Trees
  is : found_tokens found ≡ path_tokens Plain path ++ tokens
  colons : (tail : Trees) → Ended tail → is_colons (tokens ++ tail) ≡ false
  equals : (tail : Trees) → Ended tail → is_equals (tokens ++ tail) ≡ is_equals rest
  ends : Fits found []
  again : (start : Span) (other : Path) → erased_path other ≡ erased_path path → (tail : Trees) (last : Span) → Ended tail → Fits found tail → Again erased_found (path_by start other (delimiter_of (tokens ++ tail))) (at (tokens ++ tail) last) tail found
  only : (start : Span) (other : Path) (tail : Trees) (last : Span) (it : Found) (after : Input) → Ended tail → path_by start other (delimiter_of (tokens ++ tail)) (at (tokens ++ tail) last) ≡ Some (it, after) → erased_found it ≡ erased_found found → Fits found tail

path_item-at : (tokens behind : Trees) (last new : Span) (path : Path) → meta_path (at tokens last) ≡ Some (path, at behind new) → path_item (at tokens last) ≡ path_by (first_span tokens) path (delimiter_of behind) (at behind new)
unfolding path_item
path_item-at tokens behind last new path e = rw e refl

-- a path with what stands behind it
path-reads : (input between : Input) (path : Path) (found : Found) → meta_path input ≡ Some (path, between) → item_start input.rest ≡ start.Path → ReadsBehind path between.rest found → ReadsItem (found_tokens found) found
path-reads input between path found e starts behind = record {
  ends = behind.ends;
  reads = rw (behind.is) (record { again = λ tail last f. read tail last f.0 f.1; first = λ tail f. rw (append_assoc (path_tokens Plain path) behind.tokens tail) (seen tail f.0).some });
  only = λ tail last it after f reads same.
      let mine = one.again (behind.tokens ++ tail) last (keep tail f) in
      let is = reaches tail last f mine.value mine.new mine.is in
      let printed = ap (λ tokens. tokens ++ tail) behind.is ∙ append_assoc (path_tokens Plain path) behind.tokens tail in
      behind.only (first_span (path_tokens Plain path ++ (behind.tokens ++ tail))) mine.value tail mine.new it after f (sym is ∙ (ap (λ tokens. item (at tokens last)) (sym printed) ∙ reads)) same;
}
  where
    one : Reads erased_path (StartsPath input.rest) (λ tail. Keep is_colons between.rest tail) meta_path (path_tokens Plain path) path
    one = meta_path-back.of input between path e

    keep : (tail : Trees) → Ended tail → Keep is_colons between.rest (behind.tokens ++ tail)
    keep tail f = never is_colons between.rest (behind.tokens ++ tail) (behind.colons tail f)

    seen : (tail : Trees) → Ended tail → StartsPath input.rest (path_tokens Plain path ++ (behind.tokens ++ tail))
    seen tail f = one.first (behind.tokens ++ tail) (keep tail f)

    -- behind the path stands what is read next
    reaches : (tail : Trees) (last : Span) → Ended tail → (other : Path) (new : Span) → meta_path (at (path_tokens Plain path ++ (behind.tokens ++ tail)) last) ≡ Some (other, at (behind.tokens ++ tail) new)
        → item (at (path_tokens Plain path ++ (behind.tokens ++ tail)) last) ≡ path_by (first_span (path_tokens Plain path ++ (behind.tokens ++ tail))) other (delimiter_of (behind.tokens ++ tail)) (at (behind.tokens ++ tail) new)
    reaches tail last f other new is =
        let tokens : Trees = path_tokens Plain path ++ (behind.tokens ++ tail) in
        let begins = path-starts input between path e starts (behind.tokens ++ tail) (seen tail f) (behind.equals tail f) in
        item-at start.Path (at tokens last) begins ∙ path_item-at tokens (behind.tokens ++ tail) last new other is

    read : (tail : Trees) (last : Span) → Ended tail → Fits found tail → Again erased_found item (at ((path_tokens Plain path ++ behind.tokens) ++ tail) last) tail found
    read tail last f fits =
        let tokens : Trees = path_tokens Plain path ++ (behind.tokens ++ tail) in
        let mine = one.again (behind.tokens ++ tail) last (keep tail f) in
        let more = behind.again (first_span tokens) mine.value mine.same tail mine.new f fits in
        record {
          value = more.value;
          new = more.new;
          is = rw (append_assoc (path_tokens Plain path) behind.tokens tail) (reaches tail last f mine.value mine.new mine.is ∙ more.is);
          same = more.same;
        }

-- ---- nothing, and a group

-- the path alone
alone : (path : Path) (rest : Trees) → is_equals rest ≡ false → ReadsBehind path rest (found.Item (nested.Meta (meta.Path path)))
alone path rest none = record {
  tokens = [];
  is = sym (append-nil (path_tokens Plain path));
  colons = λ tail f. f.colons;
  equals = λ tail f. f.equals ∙ sym none;
  ends = tt;
  again = λ start other same tail last f fits. record { value = found.Item (nested.Meta (meta.Path other)); new = last; is = rw (f.grouped, f.equals) refl; same = ap (λ it. found.Item (nested.Meta (meta.Path it))) same };
  only = λ start other tail last it after f e same. tt;
}

group-equals : (between : Delimiter) (inner tail : Trees) (span : Span) → is_equals (group between inner span ++ tail) ≡ false
unfolding group Rattle.syn_grammar.specs.Token.mark_of
group-equals between inner tail span = search (rules, the_lemmas)

-- the group of tokens at the place of the list
grouped : (path : Path) (between : Delimiter) (tokens rest : Trees) (span : Span) → is_equals rest ≡ false → ReadsBehind path rest (found.Item (nested.Meta (meta.List (record { path = path; delimiter = between; tokens = stream_of tokens; span = span }))))
unfolding meta_list skipped
grouped path between tokens rest span none = record {
  tokens = group between tokens span;
  is = rw (contents-stream tokens) refl;
  colons = λ tail f. (group-grouped between tokens tail tail span).1;
  equals = λ tail f. group-equals between tokens tail span ∙ sym none;
  ends = tt;
  again = λ start other same tail last f fits.
      let stands = skipped-over 1 (group between tokens span) tail last (group-length between tokens span) in
      record {
        value = found.Item (nested.Meta (meta.List (record { path = other; delimiter = between; tokens = stream_of tokens; span = joined start stands.0 })));
        new = stands.0;
        is = rw ((group-grouped between tokens tail tail span).0, contents_of-group between tokens tail span) (after-group start other (at (group between tokens span ++ tail) last) (at tail stands.0) stands.1);
        same = rw same refl;
      };
  only = λ start other tail last it after f e same. tt;
}
  where
    after-group : (start : Span) (other : Path) (input after : Input) → skipped 1 input ≡ after
        → ◌≡◌ {A = Option (Found × Input)} (Some (found.Item (nested.Meta (meta.List (record { path = other; delimiter = between; tokens = stream_of tokens; span = joined start (next input).last }))), next input))
        (Some (found.Item (nested.Meta (meta.List (record { path = other; delimiter = between; tokens = stream_of tokens; span = joined start after.last }))), after))
    after-group start other input after e = ap (λ (after : Input). Some (found.Item (nested.Meta (meta.List (record { path = other; delimiter = between; tokens = stream_of tokens; span = joined start after.last }))), after)) e

-- ---- `=` and a value

abbrev erased_value : Value → Value
erased_value (kind.Expr it) = kind.Expr (erased_expr it)
erased_value (kind.Bad tokens place) = kind.Bad (erased_stream tokens) CallSite

bare-with : (path : Path) (eq_span span : Span) (it : Value) → erased_nested (with_value path eq_span span it) ≡ with_value (erased_path path) CallSite CallSite (erased_value it)
bare-with path eq_span span (kind.Expr it) = refl
bare-with path eq_span span (kind.Bad tokens place) = refl

-- a bad value stays one before these tokens
abbrev Stays : Value → Trees → Type 0
Stays (kind.Expr it) tail = Unit {0}
Stays (kind.Bad tokens place) tail = shortest_run (contents tokens ++ tail) ≡ None

fits-stays : (path : Path) (eq_span span : Span) (it : Value) (tail : Trees) → Fits (found.Item (with_value path eq_span span it)) tail → Stays it tail
fits-stays path eq_span span (kind.Expr it) tail fits = tt
fits-stays path eq_span span (kind.Bad tokens place) tail fits = fits

stays-fits : (path : Path) (eq_span span : Span) (it : Value) (tail : Trees) → Stays it tail → Fits (found.Item (with_value path eq_span span it)) tail
stays-fits path eq_span span (kind.Expr it) tail stays = tt
stays-fits path eq_span span (kind.Bad tokens place) tail stays = stays

-- What is printed of a value behind a `=` at some place, and read as the same value.
record ReadsValue (found : Value) : Type 0 where
  tokens : Trees
  place : Span → Span → Span
  is : (path : Path) (eq_span span : Span) → nested_tokens (with_value path eq_span span found) ≡ path_tokens Plain path ++ (mark (codes "=") (place eq_span span) ++ tokens)
  attribute : (tail : Trees) → Ended tail → is_attribute (tokens ++ tail) ≡ false
  ends : Stays found []
  again : (eq_span : Span) (tail : Trees) (last : Span) → Ended tail → Stays found tail → Again erased_value (value eq_span) (at (tokens ++ tail) last) tail found
  only : (eq_span : Span) (tail : Trees) (last : Span) (it : Value) (after : Input) → Ended tail → value eq_span (at (tokens ++ tail) last) ≡ Some (it, after)
      → (other path : Path) (eq one span two : Span) → erased_nested (with_value other eq one it) ≡ erased_nested (with_value path span two found) → Stays found tail

name_value-at : (start : Span) (path : Path) (tokens tail : Trees) (input : Input) (last new : Span) (it : Value) → next input ≡ at tokens last → is_attribute tokens ≡ false → value (first_span input.rest) (at tokens last) ≡ Some (it, at tail new)
    → name_value start path input ≡ Some (found.Item (with_value path (first_span input.rest) (joined start new) it), at tail new)
unfolding name_value value_item
name_value-at start path tokens tail input last new it stands none e = rw (stands, none, e) refl

-- what the value is of an item that was read
name_value-parts : (start : Span) (path : Path) (tokens : Trees) (input : Input) (last : Span) (it : Found) (after : Input) → next input ≡ at tokens last → is_attribute tokens ≡ false → name_value start path input ≡ Some (it, after)
    → (of : Value) × (end : Input) × (value (first_span input.rest) (at tokens last) ≡ Some (of, end)) × (found.Item (with_value path (first_span input.rest) (joined start end.last) of) ≡ it)
unfolding name_value value_item
name_value-parts start path tokens input last it after stands none e =
    let parts = bind-at (value (first_span input.rest) (at tokens last)) (λ of. upto start >>= (λ span. pure (found.Item (with_value path (first_span input.rest) span of)))) it after (rw (stands, none) at e) in
    (parts.0, parts.1, parts.2, (some_pair_parts (found.Item (with_value path (first_span input.rest) (joined start parts.1.last) parts.0)) it parts.1 after parts.3).0)

valued : (path : Path) (rest : Trees) (eq_span span : Span) (it : Value) → is_equals rest ≡ true → ReadsValue it → ReadsBehind path rest (found.Item (with_value path eq_span span it))
unfolding skipped
valued path rest eq_span span it equals reads = record {
  tokens = equal ++ reads.tokens;
  is = reads.is path eq_span span;
  colons = λ tail f. rw (append_assoc equal reads.tokens tail) (mark-grouped 61 tail (reads.tokens ++ tail) place).1;
  equals = λ tail f. rw (append_assoc equal reads.tokens tail) (seen tail ∙ sym equals);
  ends = stays-fits path eq_span span it [] reads.ends;
  again = read;
  only = unread;
}
  where
    place : Span
    place = reads.place eq_span span

    equal : Trees
    equal = mark (codes "=") place

    seen : (tail : Trees) → is_equals (equal ++ (reads.tokens ++ tail)) ≡ true
    seen tail = rw (mark_of-mark 61 [] place (reads.tokens ++ tail)) refl

    read : (start : Span) (other : Path) → erased_path other ≡ erased_path path → (tail : Trees) (last : Span) → Ended tail → Fits (found.Item (with_value path eq_span span it)) tail
        → Again erased_found (path_by start other (delimiter_of ((equal ++ reads.tokens) ++ tail))) (at ((equal ++ reads.tokens) ++ tail) last) tail (found.Item (with_value path eq_span span it))
    read start other same tail last f fits =
        let behind : Trees = reads.tokens ++ tail in
        let stands = skipped-over 1 equal behind last (mark-length (codes "=") place) in
        let more = reads.again (first_span (equal ++ behind)) tail stands.0 f (fits-stays path eq_span span it tail fits) in
        record {
          value = found.Item (with_value other (first_span (equal ++ behind)) (joined start more.new) more.value);
          new = more.new;
          is = rw (append_assoc equal reads.tokens tail, (mark-grouped 61 behind behind place).0, seen tail) (name_value-at start other behind tail (at (equal ++ behind) last) stands.0 more.new more.value stands.1 (reads.attribute tail f) more.is);
          same = ap found.Item (bare-with other (first_span (equal ++ behind)) (joined start more.new) more.value ∙ (rw (same, more.same) refl ∙ sym (bare-with path eq_span span it)));
        }

    -- where an item of the same kind is read, a bad value stays bad
    unread : (start : Span) (other : Path) (tail : Trees) (last : Span) (one : Found) (after : Input) → Ended tail → path_by start other (delimiter_of ((equal ++ reads.tokens) ++ tail)) (at ((equal ++ reads.tokens) ++ tail) last) ≡ Some (one, after)
        → erased_found one ≡ erased_found (found.Item (with_value path eq_span span it)) → Fits (found.Item (with_value path eq_span span it)) tail
    unread start other tail last one after f e same =
        let behind : Trees = reads.tokens ++ tail in
        let stands = skipped-over 1 equal behind last (mark-length (codes "=") place) in
        let parts = name_value-parts start other behind (at (equal ++ behind) last) stands.0 one after stands.1 (reads.attribute tail f) (rw (append_assoc equal reads.tokens tail, (mark-grouped 61 behind behind place).0, seen tail) at e) in
        let bare = ap erased_found parts.3 ∙ same in
        let inner : erased_nested (with_value other (first_span (equal ++ behind)) (joined start parts.1.last) parts.0) ≡ erased_nested (with_value path eq_span span it) = cc in
        stays-fits path eq_span span it tail (reads.only (first_span (equal ++ behind)) tail stands.0 parts.0 parts.1 f parts.2 other path (first_span (equal ++ behind)) (joined start parts.1.last) eq_span span inner)

-- tokens that are no value, where they stay none before what stands behind them
bad-reads : (trees : Trees) (place : Span) → is_attribute trees ≡ false → shortest_run trees ≡ None → ReadsValue (kind.Bad (stream_of (before_comma trees)) place)
unfolding value bad_value
bad-reads trees place none bad = record {
  tokens = tokens;
  place = λ eq_span span. eq_span;
  is = λ path eq_span span. rw (contents-stream tokens) (append_assoc (path_tokens Plain path) (mark (codes "=") eq_span) tokens);
  attribute = λ tail f. attribute-again trees tail f none;
  ends = rw (contents-stream tokens, append-nil) (bad-alone trees bad);
  again = λ eq_span tail last f stays.
      let bad = rw (contents-stream tokens) at stays in
      let stands = skipped-over (length tokens) tokens tail last refl in
      record {
        value = kind.Bad (stream_of tokens) (bad_place eq_span tokens);
        new = stands.0;
        is = rw (bad, before_comma-again trees tail f.stop, stands.1) refl;
        same = refl;
      };
  only = λ eq_span tail last it after f e other path eq one span two same. unread eq_span tail last it after e other path eq one span two same (shortest_run (tokens ++ tail)) refl;
}
  where
    tokens : Trees
    tokens = before_comma trees

    -- where a run of them is a value, no item of the same kind is read
    unread : (eq_span : Span) (tail : Trees) (last : Span) (it : Value) (after : Input) → value eq_span (at (tokens ++ tail) last) ≡ Some (it, after)
        → (other path : Path) (eq one span two : Span) → erased_nested (with_value other eq one it) ≡ erased_nested (with_value path span two (kind.Bad (stream_of tokens) place))
        → (run : Option (Expr × ℕ)) → shortest_run (tokens ++ tail) ≡ run → shortest_run (contents (stream_of tokens) ++ tail) ≡ None
    unread eq_span tail last it after e other path eq one span two same None is = rw (contents-stream tokens) is
    unread eq_span tail last it after e other path eq one span two same (Some run) is =
        let both = some_pair_parts (kind.Expr run.0) it (skipped run.1 (at (tokens ++ tail) last)) after (rw is at e) in
        let clash = ap (λ it. erased_nested (with_value other eq one it)) both.0 ∙ same in
        absurd cc

is_equals-group : (trees : Trees) (between : Delimiter) → delimiter_of trees ≡ Some between → is_equals trees ≡ false
unfolding delimiter_of Rattle.syn_grammar.specs.Token.mark_of
is_equals-group [] between h = absurd cc
is_equals-group (tree ∷ trees) between h = by (out-TokenTree tree) refl
  where
    by : (layer : Layer) → out-TokenTree tree ≡ layer → is_equals (tree ∷ trees) ≡ false
    by (TokenTree-F.Ident it) is = rw is refl
    by (TokenTree-F.Lifetime it) is = rw is refl
    by (TokenTree-F.Punct it) is = let none = rw is at h in absurd cc
    by (TokenTree-F.Literal it) is = rw is refl
    by (TokenTree-F.Group it) is = rw is refl

expr-reads : (trees : Trees) (found : Expr) (count : ℕ) → shortest_run trees ≡ Some (found, count) → ReadsValue (kind.Expr found)
unfolding value
expr-reads trees found count e = record {
  tokens = expr_tokens found;
  place = λ eq_span span. span;
  is = λ path eq_span span. append_assoc (path_tokens Plain path) (mark (codes "=") span) (expr_tokens found);
  attribute = λ tail f. rw ((run-again trees found count e tail f).hash) refl;
  ends = tt;
  again = λ eq_span tail last f stays.
      let run = run-again trees found count e tail f in
      let stands = skipped-over (length (expr_tokens found)) (expr_tokens found) tail last refl in
      record { value = kind.Expr run.value; new = stands.0; is = rw (run.is, stands.1) refl; same = ap kind.Expr run.same };
  only = λ eq_span tail last it after f e other path eq one span two same. tt;
}

value-reads : (eq_span : Span) (input after : Input) (it : Value) → value eq_span input ≡ Some (it, after) → is_attribute input.rest ≡ false → ReadsValue it
unfolding value bad_value
value-reads eq_span input after it e none = by (shortest_run input.rest) refl
  where
    by : (run : Option (Expr × ℕ)) → shortest_run input.rest ≡ run → ReadsValue it
    by None is =
        let both = some_pair_parts bad it (skipped (length tokens) input) after (rw is at e) in
        subst ReadsValue both.0 (bad-reads input.rest (bad_place eq_span tokens) none is)
      where
        tokens : Trees
        tokens = before_comma input.rest

        bad : Value
        bad = kind.Bad (stream_of tokens) (bad_place eq_span tokens)
    by (Some run) is =
        let both = some_pair_parts (kind.Expr run.0) it (skipped run.1 input) after (rw is at e) in
        subst ReadsValue both.0 (expr-reads input.rest run.0 run.1 is)

-- ---- items

behind-reads : (start : Span) (path : Path) (input after : Input) (it : Found) → path_by start path (delimiter_of input.rest) input ≡ Some (it, after) → Good it → ReadsBehind path input.rest it
unfolding meta_list name_value attribute_item value_item
behind-reads start path input after it e good = by (delimiter_of input.rest) refl
  where
    Behind : Found → Type 0
    Behind it = ReadsBehind path input.rest it

    eq_span : Span
    eq_span = first_span input.rest

    item-value : is_equals input.rest ≡ true → is_attribute (next input).rest ≡ false → value_item start path eq_span (next input) ≡ Some (it, after) → Behind it
    item-value equals none e =
        let parts = bind-at (value eq_span (next input)) (λ it. upto start >>= (λ span. pure (found.Item (with_value path eq_span span it)))) it after e in
        let both = some_pair_parts (found.Item (with_value path eq_span (joined start parts.1.last) parts.0)) it parts.1 after parts.3 in
        let reads = value-reads eq_span (next input) parts.1 parts.0 parts.2 none in
        subst Behind both.0 (valued path input.rest eq_span (joined start parts.1.last) parts.0 equals reads)

    attribute : (b : Bool) → is_equals input.rest ≡ true → is_attribute (next input).rest ≡ b → (if b then attribute_item else value_item start path eq_span) (next input) ≡ Some (it, after) → Behind it
    attribute true equals is e = absurd (subst Good (sym (some_pair_parts (found.Attribute (first_span (next input).rest)) it (skipped (length (next input).rest) (next input)) after e).0) good)
    attribute false equals is e = item-value equals is e

    equal : (b : Bool) → is_equals input.rest ≡ b → (if b then name_value start path else pure (found.Item (nested.Meta (meta.Path path)))) input ≡ Some (it, after) → Behind it
    equal true is e = attribute (is_attribute (next input).rest) is refl e
    equal false is e = subst Behind (some_pair_parts (found.Item (nested.Meta (meta.Path path))) it input after e).0 (alone path input.rest is)

    by : (o : Option Delimiter) → delimiter_of input.rest ≡ o → Behind it
    by None is = equal (is_equals input.rest) refl (rw is at e)
    by (Some between) is =
        let list : MetaList = record { path = path; delimiter = between; tokens = stream_of (contents_of input.rest); span = joined start (next input).last } in
        subst Behind (some_pair_parts (found.Item (nested.Meta (meta.List list))) it (next input) after (rw is at e)).0 (grouped path between (contents_of input.rest) input.rest (joined start (next input).last) (is_equals-group input.rest between is))

path-item : (input after : Input) (it : Found) → item_start input.rest ≡ start.Path → path_item input ≡ Some (it, after) → Good it → ReadsItem (found_tokens it) it
unfolding path_item
path-item input after it starts e good =
    let parts = bind-at (meta_path input) (λ path. test delimiter_of >>= path_by (first_span input.rest) path) it after e in
    path-reads input parts.1 parts.0 it parts.2 starts (behind-reads (first_span input.rest) parts.0 parts.1 after it parts.3 good)

-- every item, but for attributes
pub item-reads : (input after : Input) (it : Found) → item input ≡ Some (it, after) → Good it → ReadsItem (found_tokens it) it
item-reads input after it e good = by (item_start input.rest) refl
  where
    by : (which : ItemStart) → item_start input.rest ≡ which → ReadsItem (found_tokens it) it
    by start.Literal is = literal-item input after it (sym (item-at start.Literal input is) ∙ e)
    by start.Boolean is = boolean-item input after it (sym (item-at start.Boolean input is) ∙ e)
    by start.Minus is = signed-item input after it (sym (item-at start.Minus input is) ∙ e)
    by start.Path is = path-item input after it is (sym (item-at start.Path input is) ∙ e) good

-- what the law of lists takes
pub item-rule : (input after : Input) (it : Found) → item input ≡ Some (it, after) → Good it → Fits it [] × Reads erased_found (λ tail. is_end tail ≡ false) (λ tail. Ended tail × Fits it tail) item (found_tokens it) it
item-rule input after it e good = let one = item-reads input after it e good in (one.ends, one.reads)
