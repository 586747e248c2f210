-- The rules of nested items do not see places.
use Rattle.std.proofs.Common.{◌≡◌, List, [], ◌∷◌, map, Option, Some, None, is_some, option_map, option_and_then, Result, Ok, Err, refl, ap, sym, ◌∙◌}
use Rattle.std.specs.Result.{result_ok, result_err, result_map_both}
use Rattle.tok_types.specs.declared.span.Span.{Span}
use Rattle.tok_types.specs.declared.span.Span.TheVariants.{CallSite}
use Rattle.tok_types.specs.declared.tree.Delimiter.{Delimiter}
use Rattle.tok_types.specs.declared.tree.TokenStream.{TokenStream}
use Rattle.tok_types.specs.declared.tree.TokenTree.{TokenTree}
use Rattle.node_expr.specs.declared.path.Path.{Path}
use Rattle.node_core.specs.declared.attr.Meta.TheVariants as meta
use Rattle.syn_grammar.specs.declared.word.Word.{Word}
use Rattle.syn_grammar.specs.declared.word.Word.TheVariants as word
use Rattle.syn_grammar.specs.Literals.{lit_of}
use Rattle.syn_grammar.specs.Token.{is_equals, literal_of}
use Rattle.syn_grammar.specs.Words.{next_word}
use Rattle.syn_items.specs.Attributes.{delimiter_of}
use Rattle.meta_nested.specs.declared.item.Found.{Found}
use Rattle.meta_nested.specs.declared.item.Found.TheVariants as found
use Rattle.meta_nested.specs.declared.item.ItemStart.{ItemStart}
use Rattle.meta_nested.specs.declared.item.ItemStart.TheVariants as start
use Rattle.meta_nested.specs.declared.nested.NestedMeta.{NestedMeta}
use Rattle.meta_nested.specs.declared.nested.NestedMeta.TheVariants as nested
use Rattle.meta_nested.specs.declared.value.Value.{Value}
use Rattle.meta_nested.specs.declared.value.Value.TheVariants as kind
use Rattle.meta_nested.specs.Nested.{bool_of, boolean, literal, as_lit, with_value, is_attribute, attribute_item, value_item, name_value, path_by, path_item, item_start, item_by, item, found_of, among, nested_of, attribute_in}
use Rattle.law_spans.specs.Erased.{erased_lit, erased_path, erased_stream, erased_tree}
use Rattle.law_spans.specs.IgnoresSpans.{IgnoresSpans}
use Rattle.law_spans.proofs.Seen.{after_one-bare, is_group-bare, is_mark-bare, lit_of-bare, literal_of-bare, mark_of-bare, next_word-bare}
use Rattle.law_spans.proofs.Steps.{Sees, pure-blind, then-blind, so-blind, map-blind, if-blind, test-blind, here-blind, close-blind, skip-blind, take_as-blind}
use Rattle.law_spans.proofs.Wholes.{list-blind, whole-bare}
use Rattle.law_spans_items.proofs.Attributes.{delimiter_of-bare, meta_list-blind, meta_path-blind, signed-blind}
use Rattle.law_spans_items.proofs.Lists.{take_all-blind}
use Rattle.law_nested.specs.Erased.{erased_nested, erased_place}
use Rattle.law_nested.proofs.SpansValues.{erased_value, value-blind}

-- what stands in a list, without its places
abbrev erased_found : Found → Found
erased_found (found.Item it) = found.Item (erased_nested it)
erased_found (found.Attribute place) = found.Attribute CallSite

-- ---- literals

bool_of-bare : (which : Word) (span : Span) → erased_lit (bool_of which span) ≡ bool_of which CallSite
bool_of-bare word.True span = refl
bool_of-bare _ span = refl

boolean-blind : IgnoresSpans erased_lit boolean boolean
unfolding boolean
boolean-blind = here-blind (λ span place s. so-blind (test-blind next_word next_word next_word-bare) (λ which. so-blind skip-blind (λ done.
    pure-blind (bool_of which span) (bool_of which place) (rw (← s) (bool_of-bare which span)))))

literal-blind : IgnoresSpans erased_lit literal literal
unfolding literal
literal-blind = map-blind lit_of lit_of (take_as-blind literal_of literal_of literal_of-bare) (λ token. sym (lit_of-bare token))

-- ---- items that begin with a path

with_value-bare : (path : Path) (eq_span span : Span) (it : Value) → erased_nested (with_value path eq_span span it) ≡ with_value (erased_path path) CallSite CallSite (erased_value it)
with_value-bare path eq_span span (kind.Expr it) = refl
with_value-bare path eq_span span (kind.Bad tokens place) = refl

is_attribute-bare : Sees is_attribute
is_attribute-bare trees = simp (mark_of-bare, is_group-bare, after_one-bare)

attribute_item-blind : IgnoresSpans erased_found attribute_item attribute_item
unfolding attribute_item
attribute_item-blind = here-blind (λ place there s. then-blind take_all-blind (λ all all' a. pure-blind (found.Attribute place) (found.Attribute there) (ap found.Attribute s)))

module _ (start there : Span) (s : CallSite ≡ there) (path path' : Path) (p : erased_path path ≡ path') where
  value_item-blind : (eq_span eq_there : Span) → CallSite ≡ eq_there → IgnoresSpans erased_found (value_item start path eq_span) (value_item there path' eq_there)
  unfolding value_item
  value_item-blind eq_span eq_there e = then-blind (value-blind eq_span eq_there e) (λ it it' i.
      close-blind start there s
      (λ span. found.Item (with_value path eq_span span it))
      (λ span. found.Item (with_value path' eq_there span it'))
      (λ span. rw (← p, ← e, ← i) (ap found.Item (with_value-bare path eq_span span it))))

  name_value-blind : IgnoresSpans erased_found (name_value start path) (name_value there path')
  unfolding name_value
  name_value-blind = here-blind (λ eq_span eq_there e. so-blind skip-blind (λ equals. so-blind (test-blind is_attribute is_attribute is_attribute-bare) (λ attribute.
      if-blind attribute attribute_item-blind (value_item-blind eq_span eq_there e))))

  path_by-blind : (between : Option Delimiter) → IgnoresSpans erased_found (path_by start path between) (path_by there path' between)
  path_by-blind (Some between) = map-blind (λ it. found.Item (nested.Meta it)) (λ it. found.Item (nested.Meta it)) (meta_list-blind start there s path path' p between) (λ it. refl)
  path_by-blind None = so-blind (test-blind is_equals is_equals (is_mark-bare 61)) (λ equals.
      if-blind equals name_value-blind (pure-blind (found.Item (nested.Meta (meta.Path path))) (found.Item (nested.Meta (meta.Path path'))) (ap (λ path. found.Item (nested.Meta (meta.Path path))) p)))

path_item-blind : IgnoresSpans erased_found path_item path_item
unfolding path_item
path_item-blind = here-blind (λ start there s. then-blind meta_path-blind (λ path path' p.
    so-blind (test-blind delimiter_of delimiter_of delimiter_of-bare) (λ between. path_by-blind start there s path path' p between)))

-- ---- one item

is_some-map : {A B : Type 0} (f : A → B) (found : Option A) → is_some (option_map f found) ≡ is_some found
is_some-map f None = refl
is_some-map f (Some value) = refl

item_start-bare : (trees : List TokenTree) → item_start (map erased_tree trees) ≡ item_start trees
item_start-bare trees = simp (literal_of-bare, is_some-map, next_word-bare, after_one-bare, mark_of-bare)

item_by-blind : (begins : ItemStart) → IgnoresSpans erased_found (item_by begins) (item_by begins)
item_by-blind start.Literal = map-blind as_lit as_lit literal-blind (λ it. refl)
item_by-blind start.Boolean = map-blind as_lit as_lit boolean-blind (λ it. refl)
item_by-blind start.Minus = map-blind as_lit as_lit signed-blind (λ it. refl)
item_by-blind start.Path = path_item-blind

item-blind : IgnoresSpans erased_found item item
unfolding item
item-blind = so-blind (test-blind item_start item_start item_start-bare) item_by-blind

-- ---- lists

found_of-bare : (tokens : TokenStream) → found_of (erased_stream tokens) ≡ option_map (map erased_found) (found_of tokens)
unfolding found_of
found_of-bare = whole-bare (list-blind item-blind)

among-bare : (items : List Found) → among (map erased_found items) ≡ result_map_both (map erased_nested) erased_place (among items)
among-bare [] = refl
among-bare (found.Attribute place ∷ more) = refl
among-bare (found.Item it ∷ more) = ap (result_map_both (λ items. erased_nested it ∷ items) (λ place. place)) (among-bare more) ∙ go (among more)
  where
    go : (rest : Result (List NestedMeta) Span)
        → result_map_both (λ items. erased_nested it ∷ items) (λ place. place) (result_map_both (map erased_nested) erased_place rest) ≡ result_map_both (map erased_nested) erased_place (result_map_both (λ items. it ∷ items) (λ place. place) rest)
    go (Ok items) = refl
    go (Err place) = refl

-- what is taken out of what stands in a list
taken-bare : {A B : Type 0} (bare : A → B) (of : Result (List NestedMeta) Span → Option A) (also : Result (List NestedMeta) Span → Option B)
    → ((answer : Result (List NestedMeta) Span) → also (result_map_both (map erased_nested) erased_place answer) ≡ option_map bare (of answer))
    → (items : Option (List Found)) → option_and_then (λ it. also (among it)) (option_map (map erased_found) items) ≡ option_map bare (option_and_then (λ it. of (among it)) items)
taken-bare bare of also e None = refl
taken-bare bare of also e (Some items) = ap also (among-bare items) ∙ e (among items)

result_ok-bare : (answer : Result (List NestedMeta) Span) → result_ok (result_map_both (map erased_nested) erased_place answer) ≡ option_map (map erased_nested) (result_ok answer)
result_ok-bare (Ok items) = refl
result_ok-bare (Err place) = refl

result_err-bare : (answer : Result (List NestedMeta) Span) → result_err (result_map_both (map erased_nested) erased_place answer) ≡ option_map erased_place (result_err answer)
result_err-bare (Ok items) = refl
result_err-bare (Err place) = refl

pub nested_of-bare : (tokens : TokenStream) → nested_of (erased_stream tokens) ≡ option_map (map erased_nested) (nested_of tokens)
unfolding nested_of
nested_of-bare tokens = ap (option_and_then (λ it. result_ok (among it))) (found_of-bare tokens) ∙ taken-bare (map erased_nested) result_ok result_ok result_ok-bare (found_of tokens)

pub attribute_in-bare : (tokens : TokenStream) → attribute_in (erased_stream tokens) ≡ option_map erased_place (attribute_in tokens)
unfolding attribute_in
attribute_in-bare tokens = ap (option_and_then (λ it. result_err (among it))) (found_of-bare tokens) ∙ taken-bare erased_place result_err result_err result_err-bare (found_of tokens)
