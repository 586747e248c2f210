-- What the table tells behind an item: whatever is read, what is left is an end of the tokens.
use Rattle.std.proofs.Common.{◌≡◌, ℕ, suc, true, List, [], ◌∷◌, ◌++◌, length, Bool, Option, Some, None, refl, arith, ap, sym, ◌∙◌, append_assoc}
use Rattle.std.proofs.lemmas.Bool.{both_ways}
use Rattle.tok_types.specs.declared.span.Span.{Span}
use Rattle.tok_types.specs.declared.tree.Delimiter.{Delimiter}
use Rattle.tok_types.specs.declared.tree.TokenTree.{TokenTree}
use Rattle.tok_types.specs.Stream.{stream_of}
use Rattle.node_expr.specs.declared.expr.Expr.{Expr}
use Rattle.node_expr.specs.declared.path.Path.{Path}
use Rattle.node_core.specs.declared.attr.Meta.TheVariants as meta
use Rattle.syn_grammar.specs.Input.{Input, after_eat, next, next_at}
use Rattle.syn_grammar.specs.Literals.{lit_of}
use Rattle.syn_grammar.specs.Token.{is_comma, is_equals, literal_of}
use Rattle.syn_grammar.specs.Words.{next_word}
use Rattle.syn_items.specs.Attributes.{delimiter_of, meta_path}
use Rattle.law_places.proofs.Steps.{Moved, Goes, pure-goes, so-at, map-goes, if-at, seen-at, here-goes, upto_then-at, skip-at, skip_by-at, eat-at, take_as-at}
use Rattle.law_places_items.proofs.Attributes.{meta_list-on, meta_path-stood, signed-stood}
use Rattle.law_places_items.proofs.Lists.{take_all-at}
use Rattle.meta_nested.specs.declared.item.Found.{Found}
use Rattle.meta_nested.specs.declared.item.Found.TheVariants as found
use Rattle.meta_nested.specs.declared.item.ItemStart.{ItemStart}
use Rattle.meta_nested.specs.declared.item.ItemStart.TheVariants as start
use Rattle.meta_nested.specs.declared.nested.NestedMeta.TheVariants as nested
use Rattle.meta_nested.specs.declared.value.Value.TheVariants as kind
use Rattle.meta_nested.specs.Angles.{Tells, TellsHere}
use Rattle.meta_nested.specs.Nested.{as_lit, attribute_item, bool_of, boolean, is_attribute, item, item_by, item_start, literal, name_value, path_by, path_item, value_item, with_value}
use Rattle.meta_nested.specs.Values.{bad_place, bad_value, before_comma, shortest_run, value, value_by}

-- ---- what the table tells

pub tells-moved : (table : List Bool) (input after : Input) → Moved input after → Tells table input.rest → Tells table after.rest
tells-moved table input after moved tells = record {
  each = λ front value equals is e.
      tells.each (moved.read ++ front) value equals (moved.is ∙ ap (λ trees. moved.read ++ trees) is ∙ sym (append_assoc moved.read front (equals ∷ value))) e;
}

-- behind the `=` a value stands
pub tells-here : (table : List Bool) (input : Input) → Tells table input.rest → is_equals input.rest ≡ true → TellsHere table (next input).rest
unfolding next Rattle.syn_grammar.specs.Token.mark_of
tells-here table input tells e = go input.rest input.last tells e
  where
    go : (trees : List TokenTree) (last : Span) → Tells table trees → is_equals trees ≡ true → TellsHere table (next_at trees last).rest
    go [] last tells e = absurd (both_ways _ refl e)
    go (tree ∷ trees) last tells e = tells.each [] trees tree refl e

-- a path is read before it
pub path-moved : (table : List Bool) (input after : Input) (path : Path) → meta_path input ≡ Some (path, after) → Tells table input.rest → Tells table after.rest
path-moved table input after path e = tells-moved table input after ((meta_path-stood input).of after path e).0

-- ---- how far the items go

value_by-goes : (eq_span : Span) (run : Option (Expr × ℕ)) → Goes (value_by eq_span run)
unfolding bad_value
value_by-goes eq_span (Some run) input = so-at (skip_by-at run.1 input) (λ done later. pure-goes (kind.Expr run.0) later)
value_by-goes eq_span None input = seen-at before_comma (λ trees. so-at (skip_by-at (length trees) input) (λ done later. pure-goes (kind.Bad (stream_of trees) (bad_place eq_span trees)) later))

value-goes : (eq_span : Span) → Goes (value eq_span)
unfolding value
value-goes eq_span input = seen-at shortest_run (λ run. value_by-goes eq_span run input)

value_item-goes : (start : Span) (path : Path) (eq_span : Span) → Goes (value_item start path eq_span)
unfolding value_item
value_item-goes start path eq_span input = so-at (value-goes eq_span input) (λ it later. upto_then-at start (λ span is. pure-goes (found.Item (with_value path eq_span span it)) later))

attribute_item-goes : Goes attribute_item
unfolding attribute_item
attribute_item-goes input = here-goes (λ place. so-at (take_all-at input) (λ all later. pure-goes (found.Attribute place) later))

name_value-goes : (start : Span) (path : Path) → Goes (name_value start path)
unfolding name_value
name_value-goes start path input = here-goes (λ eq_span. so-at (skip-at input) (λ equals later. seen-at is_attribute (λ attribute. if-at attribute (attribute_item-goes later) (value_item-goes start path eq_span later))))

path_by-goes : (start : Span) (path : Path) (between : Option Delimiter) → Goes (path_by start path between)
path_by-goes start path (Some between) input = map-goes (λ it. found.Item (nested.Meta it)) (meta_list-on start (suc (length input.rest)) path between input (omega arith))
path_by-goes start path None input = seen-at is_equals (λ equals. if-at equals (name_value-goes start path input) (pure-goes (found.Item (nested.Meta (meta.Path path))) input))

path_item-goes : Goes path_item
unfolding path_item
path_item-goes input = here-goes (λ start. so-at (meta_path-stood input) (λ path later. seen-at delimiter_of (λ between. path_by-goes start path between later)))

literal-goes : Goes literal
unfolding literal
literal-goes input = map-goes lit_of (take_as-at literal_of input)

boolean-goes : Goes boolean
unfolding boolean
boolean-goes input = here-goes (λ span. seen-at next_word (λ which. so-at (skip-at input) (λ done later. pure-goes (bool_of which span) later)))

item_by-goes : (begin : ItemStart) → Goes (item_by begin)
item_by-goes start.Literal input = map-goes as_lit (literal-goes input)
item_by-goes start.Boolean input = map-goes as_lit (boolean-goes input)
item_by-goes start.Minus input = map-goes as_lit (signed-stood input)
item_by-goes start.Path input = path_item-goes input

item-goes : Goes item
unfolding item
item-goes input = seen-at item_start (λ begin. item_by-goes begin input)

-- an item is read
pub item-moved : (table : List Bool) (input after : Input) (it : Found) → item input ≡ Some (it, after) → Tells table input.rest → Tells table after.rest
item-moved table input after it e = tells-moved table input after ((item-goes input).of after it e).0

-- the comma behind it is taken
pub comma-moved : (table : List Bool) (input : Input) → Tells table input.rest → Tells table (after_eat 1 (is_comma input.rest) input).rest
comma-moved table input = tells-moved table input (after_eat 1 (is_comma input.rest) input) ((eat-at 1 is_comma input).of (after_eat 1 (is_comma input.rest) input) (is_comma input.rest) refl).0
