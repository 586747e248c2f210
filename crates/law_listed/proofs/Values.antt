-- The values of items are such that their literals are listed.
use Rattle.std.proofs.Common.{◌≡◌, ℕ, zero, suc, List, [], ◌∷◌, length, All, Option, Some, None, Result, Ok, Err, refl, subst, option_map, option_and_then}
use Rattle.std.proofs.lemmas.List.Elements.{All-cons, All-head, All-nil, All-tail}
use Rattle.std.proofs.lemmas.Option.{some_pair_parts}
use Rattle.std.specs.Option.{option_or}
use Rattle.std.specs.Result.{result_ok, result_map_both}
use Rattle.tok_types.specs.Stream.{stream_of}
use Rattle.tok_types.specs.declared.span.Span.{Span}
use Rattle.tok_types.specs.declared.tree.Delimiter.{Delimiter}
use Rattle.tok_types.specs.declared.tree.TokenStream.{TokenStream, out-TokenStream}
use Rattle.tok_types.specs.declared.tree.TokenTree.{TokenTree}
use Rattle.node_expr.specs.declared.expr.Expr.{Expr}
use Rattle.node_expr.specs.declared.expr.Expr.TheVariants as expr
use Rattle.node_expr.specs.declared.lit.Lit.{Lit}
use Rattle.node_expr.specs.declared.path.Path.{Path}
use Rattle.node_core.specs.declared.attr.Meta.TheVariants as meta
use Rattle.syn_grammar.specs.Grammar.{max_depth}
use Rattle.syn_grammar.specs.Input.{test, here, upto, skip, skip_by, start_of}
use Rattle.syn_grammar.specs.Readers.{any_level}
use Rattle.syn_grammar.specs.Token.{contents_of, is_equals}
use Rattle.syn_items.specs.Attributes.{delimiter_of, expr_in, meta_list, meta_path, number_in, signed}
use Rattle.syn_items.specs.Lists.{take_all}
use Rattle.meta_nested.specs.declared.item.Found.{Found}
use Rattle.meta_nested.specs.declared.item.Found.TheVariants as found
use Rattle.meta_nested.specs.declared.item.ItemStart.{ItemStart}
use Rattle.meta_nested.specs.declared.item.ItemStart.TheVariants as begins
use Rattle.meta_nested.specs.declared.nested.NestedMeta.{NestedMeta}
use Rattle.meta_nested.specs.declared.nested.NestedMeta.TheVariants as nested
use Rattle.meta_nested.specs.declared.value.Value.{Value}
use Rattle.meta_nested.specs.declared.value.Value.TheVariants as kind
use Rattle.meta_nested.specs.Nested.{among, as_lit, attribute_item, boolean, found_of, is_attribute, item, item_by, item_start, literal, name_value, nested_of, path_by, path_item, value_item, with_value}
use Rattle.meta_nested.specs.Values.{bad_place, bad_value, before_comma, either_value, least, run_of, shortest_run, value, value_by, value_in}
use Rattle.meta_nested.proofs.Readings.{run-parts}
use Rattle.law_listed.proofs.Exprs.{OnTokens, within-lits}
use Rattle.law_listed.proofs.Finds.{Finds, all-finds, pure-finds, then-finds, so-finds, seen-finds, made-finds, map-finds, if-finds, items_after-finds}
use Rattle.law_listed.proofs.Literals.{OnBareLits, lit-lits}

-- ---- the shortest run of tokens

least-said : {A : Type 0} (says : A → Type 0) (of : ℕ → Option A) → ((count : ℕ) (it : A) → of count ≡ Some it → says it) → (limit : ℕ) (run : A × ℕ) → least of limit ≡ Some run → says run.0
least-said {A} says of h zero run e = by (of zero) (h zero) e
  where
    by : (o : Option A) → ((it : A) → o ≡ Some it → says it) → option_map (λ it. (it, zero)) o ≡ Some run → says run.0
    by None h e = absurd cc
    by (Some it) h e = let same : it ≡ run.0 = (some_pair_parts it run.0 zero run.1 e).0 in subst says same (h it refl)
least-said {A} says of h (suc limit) run e = by (least of limit) (least-said says of h limit) (of (suc limit)) (h (suc limit)) e
  where
    by : (shorter : Option (A × ℕ)) → ((run : A × ℕ) → shorter ≡ Some run → says run.0) → (o : Option A) → ((it : A) → o ≡ Some it → says it) → option_or shorter (option_map (λ it. (it, suc limit)) o) ≡ Some run → says run.0
    by (Some one) g o h e = g run e
    by None g None h e = absurd cc
    by None g (Some it) h e = let same : it ≡ run.0 = (some_pair_parts it run.0 (suc limit) run.1 e).0 in subst says same (h it refl)

-- ---- what is said of an item by its value

-- of the value of an item, where it has one
abbrev pub OnPair : (Expr → Type 0) → NestedMeta → Type 0
OnPair says (nested.Meta (meta.NameValue pair)) = says pair.value
OnPair says _ = Unit {0}

-- the same of what stands in a list
abbrev OnFound : (Expr → Type 0) → Found → Type 0
OnFound says (found.Item it) = OnPair says it
OnFound says (found.Attribute place) = Unit {0}

-- the same of what stands behind a `=`
abbrev OnKind : (Expr → Type 0) → Value → Type 0
OnKind says (kind.Expr it) = says it
OnKind says (kind.Bad tokens place) = Unit {0}

module _ {says : Expr → Type 0} (values : (trees : List TokenTree) (it : Expr) → value_in trees ≡ Some it → says it) where
  shortest_run-said : (trees : List TokenTree) (run : Expr × ℕ) → shortest_run trees ≡ Some run → says run.0
  shortest_run-said trees run e = least-said says (run_of value_in trees) (λ count it e. values _ it (run-parts value_in trees count it e).1) (length trees) run e

  bad_value-finds : (eq_span : Span) → Finds (OnKind says) (bad_value eq_span)
  unfolding bad_value
  bad_value-finds eq_span = so-finds (test before_comma) (λ trees. so-finds (skip_by (length trees)) (λ done. pure-finds (kind.Bad (stream_of trees) (bad_place eq_span trees)) tt))

  value_by-finds : (eq_span : Span) (run : Option (Expr × ℕ)) → ((one : Expr × ℕ) → run ≡ Some one → says one.0) → Finds (OnKind says) (value_by eq_span run)
  value_by-finds eq_span None h = bad_value-finds eq_span
  value_by-finds eq_span (Some run) h = so-finds (skip_by run.1) (λ done. pure-finds (kind.Expr run.0) (h run refl))

  value-finds : (eq_span : Span) → Finds (OnKind says) (value eq_span)
  unfolding value
  value-finds eq_span = seen-finds shortest_run (value_by eq_span) (λ trees. value_by-finds eq_span (shortest_run trees) (shortest_run-said trees))

  with_value-said : (path : Path) (eq_span span : Span) (it : Value) → OnKind says it → OnPair says (with_value path eq_span span it)
  with_value-said path eq_span span (kind.Expr it) said = said
  with_value-said path eq_span span (kind.Bad tokens place) said = tt

  value_item-finds : (start : Span) (path : Path) (eq_span : Span) → Finds (OnFound says) (value_item start path eq_span)
  unfolding value_item
  value_item-finds start path eq_span = then-finds (value-finds eq_span) (λ it said. so-finds (upto start) (λ span. pure-finds (found.Item (with_value path eq_span span it)) (with_value-said path eq_span span it said)))

  attribute_item-finds : Finds (OnFound says) attribute_item
  unfolding attribute_item
  attribute_item-finds = so-finds here (λ place. so-finds take_all (λ all. pure-finds (found.Attribute place) tt))

  name_value-finds : (start : Span) (path : Path) → Finds (OnFound says) (name_value start path)
  unfolding name_value
  name_value-finds start path = so-finds here (λ eq_span. so-finds skip (λ equals. so-finds (test is_attribute) (λ attribute. if-finds attribute attribute_item-finds (value_item-finds start path eq_span))))

  meta_list-finds : (start : Span) (path : Path) (between : Delimiter) → Finds (λ it. OnPair says (nested.Meta it)) (meta_list start path between)
  unfolding meta_list
  meta_list-finds start path between = so-finds (test contents_of) (λ tokens. so-finds skip (λ group. so-finds (upto start) (λ span.
      pure-finds (meta.List (record { path = path; delimiter = between; tokens = stream_of tokens; span = span })) tt)))

  path_by-finds : (start : Span) (path : Path) (between : Option Delimiter) → Finds (OnFound says) (path_by start path between)
  path_by-finds start path (Some between) = map-finds (λ it. found.Item (nested.Meta it)) (meta_list-finds start path between) (λ it said. said)
  path_by-finds start path None = so-finds (test is_equals) (λ equals. if-finds equals (name_value-finds start path) (pure-finds (found.Item (nested.Meta (meta.Path path))) tt))

  path_item-finds : Finds (OnFound says) path_item
  unfolding path_item
  path_item-finds = so-finds here (λ start. so-finds meta_path (λ path. so-finds (test delimiter_of) (λ between. path_by-finds start path between)))

  item_by-finds : (which : ItemStart) → Finds (OnFound says) (item_by which)
  item_by-finds begins.Literal = made-finds as_lit literal (λ it. tt)
  item_by-finds begins.Boolean = made-finds as_lit boolean (λ it. tt)
  item_by-finds begins.Minus = made-finds as_lit signed (λ it. tt)
  item_by-finds begins.Path = path_item-finds

  item-finds : Finds (OnFound says) item
  unfolding item
  item-finds = so-finds (test item_start) (λ which. item_by-finds which)

  -- ---- lists

  found_of-said : (tokens : TokenStream) (all : List Found) → found_of tokens ≡ Some all → All (OnFound says) all
  unfolding found_of
  found_of-said tokens all e = all-finds (items_after-finds item-finds [] (All-nil (OnFound says))) (start_of (out-TokenStream tokens).trees) all e

  among-said : (all : List Found) → All (OnFound says) all → (items : List NestedMeta) → result_ok (among all) ≡ Some items → All (OnPair says) items
  among-said [] h items e = let same : [] ≡ items = cc in subst (All (OnPair says)) same (All-nil (OnPair says))
  among-said (found.Attribute place ∷ more) h items e = absurd cc
  among-said (found.Item it ∷ more) h items e = by (among more) (among-said more (All-tail (OnFound says) (found.Item it) more h)) e
    where
      by : (rest : Result (List NestedMeta) Span) → ((items : List NestedMeta) → result_ok rest ≡ Some items → All (OnPair says) items)
          → result_ok (result_map_both (λ items. it ∷ items) (λ place. place) rest) ≡ Some items → All (OnPair says) items
      by (Ok rest) g e = let same : it ∷ rest ≡ items = cc in subst (All (OnPair says)) same (All-cons (OnPair says) it rest (All-head (OnFound says) (found.Item it) more h) (g rest refl))
      by (Err place) g e = absurd cc

  -- what is said of all values is said of the value of each item
  pub nested_of-said : (tokens : TokenStream) (items : List NestedMeta) → nested_of tokens ≡ Some items → All (OnPair says) items
  unfolding nested_of
  nested_of-said tokens items e = by (found_of tokens) (found_of-said tokens) e
    where
      by : (o : Option (List Found)) → ((all : List Found) → o ≡ Some all → All (OnFound says) all) → option_and_then (λ it. result_ok (among it)) o ≡ Some items → All (OnPair says) items
      by None h e = absurd cc
      by (Some all) h e = among-said all (h all refl) items e

-- ---- the literals of a value

-- of a number with its sign, and of what holds of the literals of expressions
pub value_in-lits : {Says : Lit → Type 0} → OnTokens Says → ((trees : List TokenTree) (number : Lit) → number_in trees ≡ Some number → Says number)
    → (trees : List TokenTree) (it : Expr) → value_in trees ≡ Some it → OnBareLits Says it
value_in-lits {Says} given numbers trees it e = by (number_in trees) (numbers trees) e
  where
    by : (o : Option Lit) → ((number : Lit) → o ≡ Some number → Says number) → either_value o (expr_in trees) ≡ Some it → OnBareLits Says it
    by (Some number) h e = let same : expr.Lit number ≡ it = cc in subst (OnBareLits Says) same (lit-lits number (h number refl))
    by None h e = all-finds (within-lits given max_depth any_level) (start_of trees) it e
