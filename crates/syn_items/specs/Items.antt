-- Items: structs, enums and unions.
use Rattle.std.specs.Prelude.{Bool, true, false, if◌then◌else◌, List, codes, Option, Some, None}
use Rattle.tok_types.specs.declared.ident.Ident.{Ident}
use Rattle.tok_types.specs.declared.span.Span.{Span}
use Rattle.tok_types.specs.declared.tree.Delimiter.TheVariants as delimiter
use Rattle.tok_types.specs.declared.tree.TokenTree.{TokenTree}
use Rattle.node_core.specs.declared.attr.Attribute.{Attribute}
use Rattle.node_core.specs.declared.data.«Data».{«Data»}
use Rattle.node_core.specs.declared.data.«Data».TheVariants as body
use Rattle.node_core.specs.declared.data.Fields.TheVariants as made
use Rattle.node_core.specs.declared.data.Visibility.{Visibility}
use Rattle.node_core.specs.declared.derive.DeriveInput.{DeriveInput}
use Rattle.node_core.specs.declared.generics.GenericParam.{GenericParam}
use Rattle.node_core.specs.declared.generics.WhereClause.{WhereClause}
use Rattle.syn_grammar.specs.declared.word.Word.{Word}
use Rattle.syn_grammar.specs.declared.word.Word.TheVariants as word
use Rattle.syn_grammar.specs.Token.{ident_of, is_group, is_semicolon}
use Rattle.syn_grammar.specs.Words.{name_of, next_word}
use Rattle.std.specs.Str.{bytes_eq}
use Rattle.syn_grammar.specs.Input.{Parser, ◌>>=◌, ◌>>◌, ◌<$>◌, pure, refuse, test, here, upto, skip, expect, take_as, inside}
use Rattle.syn_items.specs.declared.look.ItemStart.{ItemStart}
use Rattle.syn_items.specs.declared.look.ItemStart.TheVariants as begin
use Rattle.syn_items.specs.declared.lists.While.TheVariants as while
use Rattle.syn_items.specs.Attributes.{attributes}
use Rattle.syn_items.specs.Fields.{fields_named, fields_unnamed, variants}
use Rattle.syn_items.specs.Generics.{maybe_where, params}
use Rattle.syn_items.specs.Lists.{each_while, goes_on}
use Rattle.syn_items.specs.Visibility.{visibility}

-- ---- which item it is

-- `union` is no keyword: it is one where an item may begin
abbrev pub is_union : Option Ident → Bool
is_union (Some ident) = if ident.raw then false else bytes_eq ident.text (codes "union")
is_union None = false

abbrev pub start_by : Word → Bool → ItemStart
start_by word.Struct union = begin.Struct
start_by word.Enum union = begin.Enum
start_by _ true = begin.Union
start_by _ false = begin.Nothing

-- which item begins at its keyword
unfoldable pub item_start : List TokenTree → ItemStart
item_start trees = start_by (next_word trees) (is_union (ident_of trees))

-- ---- bodies, each with the `where` clause that stands before or in it

-- `(A, B) where ..;`
unfoldable pub tuple_struct : Parser (Option WhereClause × «Data»)
tuple_struct = do
  start ← here
  unnamed ← fields_unnamed
  clause ← maybe_where
  end ← expect 1 is_semicolon
  span ← upto start
  pure (clause, body.Struct (record { fields = made.Unnamed unnamed; span = span }))

-- `{ a: A }`, or `;`
unfoldable pub other_struct : Parser «Data»
other_struct = do
  span ← here
  braced ← test (is_group delimiter.Brace)
  if braced then (λ named. body.Struct (record { fields = made.Named named; span = span })) <$> fields_named
      else expect 1 is_semicolon >> pure (body.Struct (record { fields = made.Unit; span = span }))

-- `{ A, B(T) }`
unfoldable pub enum_body : Parser «Data»
enum_body = do
  span ← here
  found ← inside delimiter.Brace variants
  pure (body.Enum (record { variants = found; span = span }))

unfoldable pub union_body : Parser «Data»
union_body = do
  span ← here
  named ← fields_named
  pure (body.Union (record { fields = named; span = span }))

-- a body that stands behind its clause
abbrev pub data_by : ItemStart → Parser «Data»
data_by begin.Struct = other_struct
data_by begin.Enum = enum_body
data_by begin.Union = union_body
data_by begin.Nothing = refuse

-- whether the body of a struct with fields in parentheses comes next
abbrev pub is_tuple_struct : ItemStart → List TokenTree → Bool
is_tuple_struct begin.Struct = is_group delimiter.Parenthesis
is_tuple_struct _ = λ trees. false

unfoldable pub body_of : ItemStart → Parser (Option WhereClause × «Data»)
body_of begins = do
  unnamed ← test (is_tuple_struct begins)
  if unnamed then tuple_struct else (do
    clause ← maybe_where
    found ← data_by begins
    pure (clause, found))

-- ---- a whole item

-- the item that its parts are, its parameters with their place and its body with the `where` clause
abbrev pub item_of : List Attribute → Visibility → Ident → (List GenericParam × Span) → (Option WhereClause × «Data») → Span → DeriveInput
item_of attrs vis ident generics found span = record {
  attrs = attrs;
  vis = vis;
  ident = ident;
  generics = record { params = generics.0; where_clause = found.0; span = generics.1 };
  body = found.1;
  span = span;
}

-- `#[attr] pub struct Name<T> where .. { a: T }`
unfoldable pub item : Parser DeriveInput
item = do
  start ← here
  attrs ← attributes
  vis ← visibility
  begins ← test item_start
  keyword ← skip
  ident ← take_as name_of
  generics ← params
  found ← body_of begins
  span ← upto start
  pure (item_of attrs vis ident generics found span)

-- items without marks between them, to the end
abbrev pub items : Parser (List DeriveInput)
items = each_while (goes_on while.Token) item
