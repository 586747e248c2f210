-- Items: attributes, visibilities, fields and variants, generics and where clauses, and function arguments.
use Rattle.std.specs.Prelude.{Bool, true, false, if◌then◌else◌, List, [], ◌∷◌, ◌++◌, map, flat_map, Option, Some, None, codes}
use Rattle.std.specs.Option.{option_map}
use Rattle.tok_types.specs.declared.ident.Ident.{Ident}
use Rattle.tok_types.specs.declared.ident.Lifetime.{Lifetime}
use Rattle.tok_types.specs.declared.span.Span.{Span}
use Rattle.tok_types.specs.declared.tree.Delimiter.TheVariants as delimiter
use Rattle.node_core.specs.declared.attr.Attribute.{Attribute}
use Rattle.node_core.specs.declared.attr.Meta.{Meta}
use Rattle.node_core.specs.declared.attr.Meta.TheVariants as meta
use Rattle.node_core.specs.declared.attr.MetaList.{MetaList}
use Rattle.node_core.specs.declared.attr.MetaNameValue.{MetaNameValue}
use Rattle.node_core.specs.declared.data.Visibility.{Visibility}
use Rattle.node_core.specs.declared.data.Visibility.TheVariants as vis
use Rattle.node_core.specs.declared.data.Field.{Field}
use Rattle.node_core.specs.declared.data.Fields.{Fields}
use Rattle.node_core.specs.declared.data.Fields.TheVariants as fields
use Rattle.node_core.specs.declared.data.FieldsNamed.{FieldsNamed}
use Rattle.node_core.specs.declared.data.FieldsUnnamed.{FieldsUnnamed}
use Rattle.node_core.specs.declared.data.Variant.{Variant}
use Rattle.node_core.specs.declared.data.«Data».{«Data»}
use Rattle.node_core.specs.declared.data.«Data».TheVariants as body
use Rattle.node_core.specs.declared.data.DataStruct.{DataStruct}
use Rattle.node_core.specs.declared.data.DataEnum.{DataEnum}
use Rattle.node_core.specs.declared.data.DataUnion.{DataUnion}
use Rattle.node_core.specs.declared.derive.DeriveInput.{DeriveInput}
use Rattle.node_expr.specs.declared.expr.Expr.{Expr}
use Rattle.node_expr.specs.declared.expr.Expr.TheOpen.{Type-F}
use Rattle.node_core.specs.declared.generics.Generics.{Generics}
use Rattle.node_core.specs.declared.generics.GenericParam.{GenericParam}
use Rattle.node_core.specs.declared.generics.GenericParam.TheVariants as param
use Rattle.node_core.specs.declared.generics.LifetimeParam.{LifetimeParam}
use Rattle.node_core.specs.declared.generics.TypeParam.{TypeParam}
use Rattle.node_expr.specs.declared.generics.TypeParamBound.{TypeParamBound}
use Rattle.node_core.specs.declared.generics.ConstParam.{ConstParam}
use Rattle.node_core.specs.declared.generics.WhereClause.{WhereClause}
use Rattle.node_core.specs.declared.generics.WherePredicate.{WherePredicate}
use Rattle.node_core.specs.declared.generics.WherePredicate.TheVariants as predicate
use Rattle.node_expr.specs.declared.ty.«Type».{«Type» as Type', out-Type}
use Rattle.node_expr.specs.declared.ty.FnArg.{FnArg}
use Rattle.print_core.specs.declared.path.PathStyle.TheVariants.{Plain}
use Rattle.print_core.specs.Marks.{Trees, contents, ident, lifetime, mark, word, group, comma, joined, unless_empty, optional}
use Rattle.print_core.specs.Paths.{angled, binder, sum_of}
use Rattle.print_core.specs.Types.{maybe_name}
use Rattle.print_core.specs.Nodes.{expr_tokens, type_tokens, bound_tokens, path_tokens}

-- `path`, `path(tokens)`, `path = value`
abbrev pub meta_list_tokens : MetaList → Trees
meta_list_tokens it = path_tokens Plain it.path ++ group it.delimiter (contents it.tokens) it.span

abbrev pub name_value_tokens : MetaNameValue → Trees
name_value_tokens it = path_tokens Plain it.path ++ mark (codes "=") it.span ++ expr_tokens it.value

abbrev pub meta_tokens : Meta → Trees
meta_tokens (meta.Path path) = path_tokens Plain path
meta_tokens (meta.«List» it) = meta_list_tokens it
meta_tokens (meta.NameValue it) = name_value_tokens it

-- `#[meta]`
abbrev pub attribute_tokens : Attribute → Trees
attribute_tokens it = mark (codes "#") it.span ++ group delimiter.Bracket (meta_tokens it.meta) it.span

abbrev pub attributes_tokens : List Attribute → Trees
attributes_tokens attrs = flat_map attribute_tokens attrs

-- nothing, `pub`, `pub(crate)`, `pub(in path)`
abbrev pub visibility_tokens : Visibility → Trees
visibility_tokens vis.Inherited = []
visibility_tokens (vis.Public span) = word (codes "pub") span
visibility_tokens (vis.Restricted in_token path span) =
    word (codes "pub") span
    ++ group delimiter.Parenthesis ((if in_token then word (codes "in") span else []) ++ path_tokens Plain path) span

-- `#[attr] pub name: T`, `pub T`
abbrev pub field_tokens : Field → Trees
field_tokens it =
    attributes_tokens it.attrs ++ visibility_tokens it.vis ++ maybe_name it.ident it.span ++ type_tokens it.ty

-- `{ a: A, b: B }`
abbrev pub named_tokens : FieldsNamed → Trees
named_tokens it = group delimiter.Brace (joined (comma it.span) (map field_tokens it.named)) it.span

-- `(A, B)`
abbrev pub unnamed_tokens : FieldsUnnamed → Trees
unnamed_tokens it = group delimiter.Parenthesis (joined (comma it.span) (map field_tokens it.unnamed)) it.span

abbrev pub fields_tokens : Fields → Trees
fields_tokens (fields.Named it) = named_tokens it
fields_tokens (fields.Unnamed it) = unnamed_tokens it
fields_tokens fields.Unit = []

-- `= value`, or nothing
abbrev pub maybe_equal : Option Trees → Span → Trees
maybe_equal None span = []
maybe_equal (Some value) span = mark (codes "=") span ++ value

-- `#[attr] Name(A, B) = 1`
abbrev pub variant_tokens : Variant → Trees
variant_tokens it =
    attributes_tokens it.attrs ++ ident it.ident ++ fields_tokens it.fields ++ maybe_equal (option_map expr_tokens it.discriminant) it.span

-- `: A + B`, or nothing without bounds
abbrev pub maybe_bounds : List Trees → Span → Trees
maybe_bounds bounds span = unless_empty bounds (mark (codes ":") span ++ sum_of bounds span)

-- `'a: 'b`
abbrev pub lifetime_param_tokens : LifetimeParam → Trees
lifetime_param_tokens it = attributes_tokens it.attrs ++ lifetime it.lifetime ++ maybe_bounds (map lifetime it.bounds) it.span

-- `T: A + B = C`
abbrev pub type_param_tokens : TypeParam → Trees
type_param_tokens it =
    attributes_tokens it.attrs ++ ident it.ident ++ maybe_bounds (map bound_tokens it.bounds) it.span
    ++ maybe_equal (option_map type_tokens it.default) it.span

-- `const N: usize = 8`
abbrev pub const_param_tokens : ConstParam → Trees
const_param_tokens it =
    attributes_tokens it.attrs ++ word (codes "const") it.span ++ ident it.ident ++ mark (codes ":") it.span
    ++ type_tokens it.ty ++ maybe_equal (option_map expr_tokens it.default) it.span

abbrev pub param_tokens : GenericParam → Trees
param_tokens (param.Lifetime it) = lifetime_param_tokens it
param_tokens (param.Ty it) = type_param_tokens it
param_tokens (param.Const it) = const_param_tokens it

-- `<'a, T, const N: usize>`, or nothing without parameters; the where clause stands elsewhere
abbrev pub generics_tokens : Generics → Trees
generics_tokens it = unless_empty it.params (angled (map param_tokens it.params) it.span)

-- whether the type's first token is the `for` of its own binder
abbrev pub begins_with_binder : Type' → Bool
begins_with_binder ty = elim (out-Type ty) [ Type-F.FnPtr it ↦ elim it.lifetimes [ [] ↦ false | _ ∷ _ ↦ true ] | _ ↦ false ]

-- the binder of a predicate: where it is empty and the type begins with one of its own, `for<>` keeps them apart
abbrev pub predicate_binder : List Lifetime → Type' → Span → Trees
predicate_binder [] ty span = if begins_with_binder ty then word (codes "for") span ++ angled [] span else []
predicate_binder (first ∷ others) ty span = binder (first ∷ others) span

-- `'a: 'b + 'c`, `for<'a> &'a T: A + B`
abbrev pub predicate_tokens : WherePredicate → Trees
predicate_tokens (predicate.Lifetime it bounds span) = lifetime it ++ mark (codes ":") span ++ sum_of (map lifetime bounds) span
predicate_tokens (predicate.Ty lifetimes ty bounds span) =
    predicate_binder lifetimes ty span ++ type_tokens ty ++ mark (codes ":") span ++ sum_of (map bound_tokens bounds) span

-- its keyword also without predicates
abbrev pub where_tokens : WhereClause → Trees
where_tokens it = word (codes "where") it.span ++ joined (comma it.span) (map predicate_tokens it.predicates)

abbrev pub maybe_where : Option WhereClause → Trees
maybe_where clause = optional (option_map where_tokens clause)

-- `where .. { a: A }`, `(A) where ..;`, `where ..;`
abbrev pub struct_with : Option WhereClause → DataStruct → Trees
struct_with clause it = elim it.fields [
  | fields.Named named ↦ maybe_where clause ++ named_tokens named
  | fields.Unnamed unnamed ↦ unnamed_tokens unnamed ++ maybe_where clause ++ mark (codes ";") it.span
  | fields.Unit ↦ maybe_where clause ++ mark (codes ";") it.span
]

-- `{ A, B }`
abbrev pub enum_tokens : DataEnum → Trees
enum_tokens it = group delimiter.Brace (joined (comma it.span) (map variant_tokens it.variants)) it.span

-- a body, with the where clause at its place
abbrev pub body_with : Option WhereClause → «Data» → Trees
body_with clause (body.Struct it) = struct_with clause it
body_with clause (body.Enum it) = maybe_where clause ++ enum_tokens it
body_with clause (body.Union it) = maybe_where clause ++ named_tokens it.fields

-- `struct`, `enum` or `union`
abbrev pub body_word : «Data» → Span → Trees
body_word (body.Struct it) span = word (codes "struct") span
body_word (body.Enum it) span = word (codes "enum") span
body_word (body.Union it) span = word (codes "union") span

-- `#[attr] pub struct Name<T> where .. { a: T }`
abbrev pub derive_input_tokens : DeriveInput → Trees
derive_input_tokens it =
    attributes_tokens it.attrs ++ visibility_tokens it.vis ++ body_word it.body it.span ++ ident it.ident
    ++ generics_tokens it.generics ++ body_with it.generics.where_clause it.body

-- `pattern: T`
abbrev pub fn_arg_tokens : FnArg → Trees
fn_arg_tokens it = contents it.pat ++ mark (codes ":") it.span ++ type_tokens it.ty
