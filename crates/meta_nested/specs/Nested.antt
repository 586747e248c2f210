-- Nested items: what stands between the parentheses of an attribute, separated by commas.
use Rattle.std.specs.Prelude.{Bool, true, false, ◌&&◌, not, if◌then◌else◌, List, [], ◌∷◌, codes, Option, Some, None, is_some, option_and_then, Result, Ok, Err}
use Rattle.std.specs.Result.{result_ok, result_err, result_map_both}
use Rattle.tok_types.specs.Ascii.{hash, minus}
use Rattle.tok_types.specs.declared.span.Span.{Span}
use Rattle.tok_types.specs.declared.tree.Delimiter.{Delimiter}
use Rattle.tok_types.specs.declared.tree.Delimiter.TheVariants as delimiter
use Rattle.tok_types.specs.declared.tree.TokenStream.{TokenStream}
use Rattle.tok_types.specs.declared.tree.TokenTree.{TokenTree}
use Rattle.node_expr.specs.declared.lit.Lit.{Lit}
use Rattle.node_expr.specs.declared.lit.Lit.TheVariants as lit
use Rattle.node_expr.specs.declared.path.Path.{Path}
use Rattle.node_core.specs.declared.attr.Meta.TheVariants as meta
use Rattle.error_fault.specs.declared.kind.FaultKind.TheVariants.{Custom}
use Rattle.error_fault.specs.Fault.{at_span}
use Rattle.error_core.specs.ErrorView.{ErrorView, One}
use Rattle.syn_grammar.specs.declared.word.Word.{Word}
use Rattle.syn_grammar.specs.declared.word.Word.TheVariants as word
use Rattle.syn_grammar.specs.Input.{Parser, ◌>>=◌, ◌>>◌, ◌<$>◌, pure, test, here, upto, skip, take_as, items_after}
use Rattle.syn_grammar.specs.Literals.{lit_of}
use Rattle.syn_grammar.specs.Token.{after_one, is_equals, is_group, is_mark, literal_of}
use Rattle.syn_grammar.specs.Trees.{whole}
use Rattle.syn_grammar.specs.Words.{next_word}
use Rattle.syn_items.specs.Attributes.{delimiter_of, meta_list, meta_path, signed}
use Rattle.syn_items.specs.Lists.{take_all}
use Rattle.meta_nested.specs.declared.item.Found.{Found}
use Rattle.meta_nested.specs.declared.item.Found.TheVariants as found
use Rattle.meta_nested.specs.declared.item.ItemStart.{ItemStart}
use Rattle.meta_nested.specs.declared.item.ItemStart.TheVariants as start
use Rattle.meta_nested.specs.declared.nested.NestedMeta.{NestedMeta}
use Rattle.meta_nested.specs.declared.nested.NestedMeta.TheVariants as nested
use Rattle.meta_nested.specs.declared.value.Value.{Value}
use Rattle.meta_nested.specs.declared.value.Value.TheVariants as kind
use Rattle.meta_nested.specs.Values.{value}

-- ---- literals

abbrev pub bool_of : Word → Span → Lit
bool_of word.True span = lit.Bool (record { value = true; span = span })
bool_of _ span = lit.Bool (record { value = false; span = span })

-- `true` or `false`
unfoldable pub boolean : Parser Lit
boolean = do
  span ← here
  which ← test next_word
  skip >> pure (bool_of which span)

unfoldable pub literal : Parser Lit
literal = lit_of <$> take_as literal_of

abbrev pub as_lit : Lit → Found
as_lit it = found.Item (nested.Lit it)

-- ---- items that begin with a path

-- the fault of a bad value, at its place
abbrev pub expected_expression : Span → ErrorView
expected_expression place = One (at_span (Custom (codes "expected an expression")) place)

-- the item with this value, from its path to its end
abbrev pub with_value : Path → Span → Span → Value → NestedMeta
with_value path eq_span span (kind.Expr it) = nested.Meta (meta.NameValue (record { path = path; eq_span = eq_span; value = it; span = span }))
with_value path eq_span span (kind.Bad tokens place) =
    nested.NameValueInvalidExpr (record { path = path; eq_span = eq_span; value = tokens; error = expected_expression place })

-- `#` and a group in brackets
abbrev pub is_attribute : List TokenTree → Bool
is_attribute trees = is_mark hash trees && is_group delimiter.Bracket (after_one trees)

-- an attribute, behind which nothing is read
unfoldable pub attribute_item : Parser Found
attribute_item = do
  place ← here
  all ← take_all
  pure (found.Attribute place)

unfoldable pub value_item : Span → Path → Span → Parser Found
value_item start path eq_span = do
  it ← value eq_span
  span ← upto start
  pure (found.Item (with_value path eq_span span it))

-- `=` and what stands behind it
unfoldable pub name_value : Span → Path → Parser Found
name_value start path = do
  eq_span ← here
  equals ← skip
  attribute ← test is_attribute
  if attribute then attribute_item else value_item start path eq_span

abbrev pub path_by : Span → Path → Option Delimiter → Parser Found
path_by start path (Some between) = (λ it. found.Item (nested.Meta it)) <$> meta_list start path between
path_by start path None = do
  equals ← test is_equals
  if equals then name_value start path else pure (found.Item (nested.Meta (meta.Path path)))

-- `path`, `path(tokens)`, `path = value`
unfoldable pub path_item : Parser Found
path_item = do
  start ← here
  path ← meta_path
  between ← test delimiter_of
  path_by start path between

-- ---- one item

abbrev pub is_truth : Word → Bool
is_truth word.True = true
is_truth word.False = true
is_truth _ = false

abbrev pub is_boolean : List TokenTree → Bool
is_boolean trees = is_truth (next_word trees) && not (is_equals (after_one trees))

-- What begins an item: `true` and `false` are literals where no `=` follows.
abbrev pub item_start : List TokenTree → ItemStart
item_start trees =
    if is_some (literal_of trees) then start.Literal else
    if is_boolean trees then start.Boolean else
    if is_mark minus trees then start.Minus else
    start.Path

abbrev pub item_by : ItemStart → Parser Found
item_by start.Literal = as_lit <$> literal
item_by start.Boolean = as_lit <$> boolean
item_by start.Minus = as_lit <$> signed
item_by start.Path = path_item

unfoldable pub item : Parser Found
item = test item_start >>= item_by

-- ---- lists

-- a list of items, with at most one comma at its end, as far as it goes without an attribute
unfoldable pub found_of : TokenStream → Option (List Found)
found_of = whole (items_after item [])

-- what stands in a list, by the item, or by where the attribute stands
abbrev pub found_as : Result NestedMeta Span → Found
found_as (Ok it) = found.Item it
found_as (Err place) = found.Attribute place

-- the items, or where the attribute stands that is among them
abbrev pub among : List Found → Result (List NestedMeta) Span
among [] = Ok []
among (found.Attribute place ∷ more) = Err place
among (found.Item it ∷ more) = result_map_both (λ items. it ∷ items) (λ place. place) (among more)

-- the nested items that the tokens are
unfoldable pub nested_of : TokenStream → Option (List NestedMeta)
nested_of tokens = option_and_then (λ it. result_ok (among it)) (found_of tokens)

-- where the attribute stands that takes the place of a value
unfoldable pub attribute_in : TokenStream → Option Span
attribute_in tokens = option_and_then (λ it. result_err (among it)) (found_of tokens)
