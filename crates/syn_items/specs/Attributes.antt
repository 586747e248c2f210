-- Attributes, and the meta items in them.
use Rattle.std.specs.Prelude.{true, if◌then◌else◌, List, [], ◌∷◌, Option, Some, None}
use Rattle.tok_types.specs.Stream.{stream_of}
use Rattle.tok_types.specs.Ascii.{hash, minus}
use Rattle.tok_types.specs.declared.span.Span.{Span}
use Rattle.tok_types.specs.declared.tree.Delimiter.{Delimiter}
use Rattle.tok_types.specs.declared.tree.Delimiter.TheVariants as delimiter
use Rattle.tok_types.specs.declared.tree.Group.{out-Group}
use Rattle.tok_types.specs.declared.tree.TokenTree.{TokenTree, out-TokenTree}
use Rattle.tok_types.specs.declared.tree.TokenTree.TheOpen.{TokenTree-F}
use Rattle.node_make.specs.Make.{make_path, make_segment}
use Rattle.node_expr.specs.declared.expr.Expr.{Expr}
use Rattle.node_expr.specs.declared.expr.Expr.TheVariants as expr
use Rattle.node_expr.specs.declared.lit.Lit.{Lit}
use Rattle.node_expr.specs.declared.lit.Lit.TheVariants as lit
use Rattle.node_expr.specs.declared.path.Path.{Path}
use Rattle.node_expr.specs.declared.path.PathArguments.TheVariants as arguments
use Rattle.node_expr.specs.declared.path.PathSegment.{PathSegment}
use Rattle.node_core.specs.declared.attr.Attribute.{Attribute}
use Rattle.node_core.specs.declared.attr.Meta.{Meta}
use Rattle.node_core.specs.declared.attr.Meta.TheVariants as made
use Rattle.syn_grammar.specs.Token.{Layer, ident_of, literal_of, contents_of, is_colons, is_equals, is_mark}
use Rattle.syn_grammar.specs.Input.{Parser, ◌>>=◌, ◌>>◌, ◌<$>◌, pure, refuse, test, start_of, here, upto, skip, eat, expect, taken, take_as, at_end, inside, joined_by}
use Rattle.syn_grammar.specs.Literals.{lit_of}
use Rattle.syn_grammar.specs.Readers.{any_level}
use Rattle.syn_grammar.specs.Grammar.{within, max_depth}
use Rattle.syn_grammar.specs.Trees.{all}
use Rattle.syn_items.specs.declared.lists.While.TheVariants as while
use Rattle.syn_items.specs.Lists.{take_all, each_while, goes_on}

-- ---- paths of any words, keywords and `_` too

unfoldable pub meta_segment : Parser PathSegment
meta_segment = do
  start ← here
  ident ← take_as ident_of
  span ← upto start
  pure (make_segment ident arguments.None span)

unfoldable pub meta_path : Parser Path
meta_path = do
  start ← here
  leading_colon ← eat 2 is_colons
  segments ← joined_by (eat 2 is_colons) meta_segment
  span ← upto start
  pure (make_path leading_colon segments span)

-- ---- values

-- a number with a minus before it; other literals have none
abbrev pub negative : Span → Lit → Option Lit
negative span (lit.Int it) = Some (lit.Int (record it { negative = true; span = span }))
negative span (lit.Float it) = Some (lit.Float (record it { negative = true; span = span }))
negative span _ = None

-- `-1`, `-1.5`
unfoldable pub signed : Parser Lit
signed = do
  start ← here
  minus ← expect 1 (is_mark minus)
  token ← take_as literal_of
  span ← upto start
  taken (negative span (lit_of token))

-- the number with its sign that all of the tokens are
abbrev pub number_in : List TokenTree → Option Lit
number_in trees = all (signed (start_of trees))

-- the expression that all of the tokens are
abbrev pub expr_in : List TokenTree → Option Expr
expr_in trees = all ((within max_depth).expr any_level (start_of trees))

abbrev pub value_by : List TokenTree → Option Lit → Option Expr → Expr
value_by trees (Some number) found = expr.Lit number
value_by trees None (Some found) = found
value_by trees None None = expr.Verbatim (stream_of trees)

-- What tokens are as the value of an attribute: a number with its sign, or an expression; else they are kept.
unfoldable pub value_of : List TokenTree → Expr
value_of trees = value_by trees (number_in trees) (expr_in trees)

-- ---- meta items

abbrev pub delimiter_in : Layer → Option Delimiter
delimiter_in (TokenTree-F.Group group) = Some (out-Group group).delimiter
delimiter_in _ = None

-- between which delimiters the group stands that comes next
unfoldable pub delimiter_of : List TokenTree → Option Delimiter
delimiter_of [] = None
delimiter_of (tree ∷ trees) = delimiter_in (out-TokenTree tree)

-- the group behind the path
unfoldable pub meta_list : Span → Path → Delimiter → Parser Meta
meta_list start path between = do
  tokens ← test contents_of
  group ← skip
  span ← upto start
  pure (made.List (record { path = path; delimiter = between; tokens = stream_of tokens; span = span }))

-- `=` and at least one token behind the path
unfoldable pub name_value : Span → Path → Parser Meta
name_value start path = do
  eq_span ← here
  equals ← expect 1 is_equals
  none ← at_end
  if none then refuse else (do
    value ← take_all
    span ← upto start
    pure (made.NameValue (record { path = path; eq_span = eq_span; value = value_of value; span = span })))

abbrev pub meta_by : Span → Path → Option Delimiter → Parser Meta
meta_by start path (Some between) = meta_list start path between
meta_by start path None = do
  done ← at_end
  if done then pure (made.Path path) else name_value start path

-- `path`, `path(tokens)`, `path = value`
unfoldable pub meta : Parser Meta
meta = do
  start ← here
  path ← meta_path
  grouped ← test delimiter_of
  meta_by start path grouped

-- `#[meta]`
unfoldable pub attribute : Parser Attribute
attribute = do
  start ← here
  hash ← expect 1 (is_mark hash)
  found ← inside delimiter.Bracket meta
  span ← upto start
  pure (record { meta = found; span = span })

-- the attributes that come next
unfoldable pub attributes : Parser (List Attribute)
attributes = each_while (goes_on while.Hash) attribute
