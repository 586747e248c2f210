-- Fields and variants.
use Rattle.std.specs.Prelude.{Bool, true, false, List, Option, Some, None}
use Rattle.tok_types.specs.declared.tree.Delimiter.TheVariants as delimiter
use Rattle.node_expr.specs.declared.expr.Expr.{Expr}
use Rattle.node_core.specs.declared.data.Field.{Field}
use Rattle.node_core.specs.declared.data.Fields.{Fields}
use Rattle.node_core.specs.declared.data.Fields.TheVariants as made
use Rattle.node_core.specs.declared.data.FieldsNamed.{FieldsNamed}
use Rattle.node_core.specs.declared.data.FieldsUnnamed.{FieldsUnnamed}
use Rattle.node_core.specs.declared.data.Variant.{Variant}
use Rattle.syn_grammar.specs.Token.{is_colon, is_equals, is_group}
use Rattle.syn_grammar.specs.Words.{name_of}
use Rattle.syn_grammar.specs.Input.{Parser, ◌>>=◌, ◌>>◌, ◌<$>◌, pure, test, here, upto, expect, take_as, inside}
use Rattle.syn_grammar.specs.Readers.{any_level}
use Rattle.syn_grammar.specs.Paths.{list}
use Rattle.syn_items.specs.Attributes.{attributes}
use Rattle.syn_items.specs.Generics.{any_type, behind, expr_at}
use Rattle.syn_items.specs.Visibility.{visibility}

-- `#[attr] pub name: T`
unfoldable pub named_field : Parser Field
named_field = do
  start ← here
  attrs ← attributes
  vis ← visibility
  ident ← take_as name_of
  colon ← expect 1 is_colon
  ty ← any_type
  span ← upto start
  pure (record { attrs = attrs; vis = vis; ident = Some ident; ty = ty; span = span })

-- `#[attr] pub T`
unfoldable pub unnamed_field : Parser Field
unnamed_field = do
  start ← here
  attrs ← attributes
  vis ← visibility
  ty ← any_type
  span ← upto start
  pure (record { attrs = attrs; vis = vis; ident = None; ty = ty; span = span })

abbrev pub named_fields : Parser (List Field)
named_fields = list named_field

abbrev pub unnamed_fields : Parser (List Field)
unnamed_fields = list unnamed_field

-- `{ a: A, b: B }`
unfoldable pub fields_named : Parser FieldsNamed
fields_named = do
  span ← here
  found ← inside delimiter.Brace named_fields
  pure (record { named = found; span = span })

-- `(A, B)`
unfoldable pub fields_unnamed : Parser FieldsUnnamed
fields_unnamed = do
  span ← here
  found ← inside delimiter.Parenthesis unnamed_fields
  pure (record { unnamed = found; span = span })

abbrev pub fields_by : Bool → Bool → Parser Fields
fields_by true unnamed = made.Named <$> fields_named
fields_by false true = made.Unnamed <$> fields_unnamed
fields_by false false = pure made.Unit

-- the fields of a variant
unfoldable pub fields : Parser Fields
fields = do
  named ← test (is_group delimiter.Brace)
  unnamed ← test (is_group delimiter.Parenthesis)
  fields_by named unnamed

-- `= 1`, or nothing
abbrev pub discriminant_of : Parser (Option Expr)
discriminant_of = behind is_equals None (Some <$> expr_at any_level)

-- `#[attr] Name(A, B) = 1`
unfoldable pub variant : Parser Variant
variant = do
  start ← here
  attrs ← attributes
  ident ← take_as name_of
  found ← fields
  discriminant ← discriminant_of
  span ← upto start
  pure (record { attrs = attrs; ident = ident; fields = found; discriminant = discriminant; span = span })

abbrev pub variants : Parser (List Variant)
variants = list variant
