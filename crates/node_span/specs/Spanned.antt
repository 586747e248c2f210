-- Where tokens and nodes stand: from the start of the first token to the end of the last. A node
-- that keeps its span stands there; one that keeps none stands where its parts do.
use Rattle.std.specs.Prelude.{List, [], ◌∷◌, map, Option, Some, None}
use Rattle.tok_types.specs.Span.{joined}
use Rattle.tok_types.specs.declared.ident.Lifetime.{Lifetime}
use Rattle.tok_types.specs.declared.span.Span.{Span}
use Rattle.tok_types.specs.declared.span.Span.TheVariants.{CallSite}
use Rattle.tok_types.specs.declared.tree.Group.{Group, out-Group}
use Rattle.tok_types.specs.declared.tree.TokenStream.{TokenStream, out-TokenStream}
use Rattle.tok_types.specs.declared.tree.TokenTree.{TokenTree, out-TokenTree}
use Rattle.tok_types.specs.declared.tree.TokenTree.TheOpen.{TokenTree-F}
use Rattle.node_expr.specs.Layers.{ExprLayer, GenericArgumentLayer, PathArgumentsLayer, TypeLayer, TypeParamBoundLayer}
use Rattle.node_core.specs.declared.attr.Meta.{Meta}
use Rattle.node_core.specs.declared.attr.Meta.TheVariants as meta
use Rattle.node_core.specs.declared.data.Data.{Data}
use Rattle.node_core.specs.declared.data.Data.TheVariants as body
use Rattle.node_core.specs.declared.data.Fields.{Fields}
use Rattle.node_core.specs.declared.data.Fields.TheVariants as fields
use Rattle.node_core.specs.declared.data.Visibility.{Visibility}
use Rattle.node_core.specs.declared.data.Visibility.TheVariants as visibility
use Rattle.node_expr.specs.declared.expr.Expr.{Expr, out-Expr}
use Rattle.node_expr.specs.declared.expr.Expr.TheOpen.{Expr-F, GenericArgument-F, PathArguments-F, Type-F, TypeParamBound-F}
use Rattle.node_expr.specs.declared.expr.ExprPath.{ExprPath, out-ExprPath}
use Rattle.node_expr.specs.declared.expr.Member.{Member}
use Rattle.node_expr.specs.declared.expr.Member.TheVariants as member
use Rattle.node_core.specs.declared.generics.GenericParam.{GenericParam}
use Rattle.node_core.specs.declared.generics.GenericParam.TheVariants as param
use Rattle.node_core.specs.declared.generics.Generics.{Generics}
use Rattle.node_expr.specs.declared.generics.TraitBound.{TraitBound, out-TraitBound}
use Rattle.node_expr.specs.declared.generics.TypeParamBound.{TypeParamBound, out-TypeParamBound}
use Rattle.node_core.specs.declared.generics.WherePredicate.{WherePredicate}
use Rattle.node_core.specs.declared.generics.WherePredicate.TheVariants as predicate
use Rattle.node_expr.specs.declared.lit.Lit.{Lit}
use Rattle.node_expr.specs.declared.lit.Lit.TheVariants as lit
use Rattle.node_expr.specs.declared.path.GenericArgument.{GenericArgument, out-GenericArgument}
use Rattle.node_expr.specs.declared.path.Path.{Path, out-Path}
use Rattle.node_expr.specs.declared.path.PathArguments.{PathArguments, out-PathArguments}
use Rattle.node_expr.specs.declared.path.PathSegment.{PathSegment, out-PathSegment}
use Rattle.node_expr.specs.declared.ty.ReturnType.{ReturnType}
use Rattle.node_expr.specs.declared.ty.ReturnType.TheVariants as output
use Rattle.node_expr.specs.declared.ty.«Type».{«Type» as Type', out-Type}
use Rattle.node_expr.specs.declared.ty.TypeArray.{TypeArray, out-TypeArray}
use Rattle.node_expr.specs.declared.ty.TypePath.{TypePath, out-TypePath}

-- the last of one span and more
abbrev pub last_of : Span → List Span → Span
last_of first [] = first
last_of first (next ∷ more) = last_of next more

-- from the start of the first to the end of the last; nowhere in a text where there is none
abbrev pub ends_joined : List Span → Span
ends_joined [] = CallSite
ends_joined (first ∷ more) = joined first (last_of first more)

-- a list stands where its items do
abbrev pub list_span : {A : Type 0} → (A → Span) → List A → Span
list_span span_of items = ends_joined (map span_of items)

abbrev pub option_span : {A : Type 0} → (A → Span) → Option A → Span
option_span span_of None = CallSite
option_span span_of (Some it) = span_of it

-- a lifetime's identifier keeps the span of the whole
abbrev pub lifetime_span : Lifetime → Span
lifetime_span it = it.ident.span

abbrev pub group_span : Group → Span
group_span it = (out-Group it).span

abbrev pub tree_layer_span : TokenTree-F TokenTree Group TokenStream → Span
tree_layer_span (TokenTree-F.Ident it) = it.span
tree_layer_span (TokenTree-F.Lifetime it) = lifetime_span it
tree_layer_span (TokenTree-F.Punct it) = it.span
tree_layer_span (TokenTree-F.Literal it) = it.span
tree_layer_span (TokenTree-F.Group it) = group_span it

abbrev pub tree_span : TokenTree → Span
tree_span tree = tree_layer_span (out-TokenTree tree)

abbrev pub stream_span : TokenStream → Span
stream_span stream = list_span tree_span (out-TokenStream stream).trees

abbrev pub lit_span : Lit → Span
lit_span (lit.Str it) = it.span
lit_span (lit.ByteStr it) = it.span
lit_span (lit.Byte it) = it.span
lit_span (lit.Char it) = it.span
lit_span (lit.Int it) = it.span
lit_span (lit.Float it) = it.span
lit_span (lit.Bool it) = it.span
lit_span (lit.Verbatim it) = it.span

-- the structs that lie on the cycle of types, expressions and paths
abbrev pub path_span : Path → Span
path_span it = (out-Path it).span

abbrev pub segment_span : PathSegment → Span
segment_span it = (out-PathSegment it).span

abbrev pub expr_path_span : ExprPath → Span
expr_path_span it = (out-ExprPath it).span

abbrev pub type_path_span : TypePath → Span
type_path_span it = (out-TypePath it).span

abbrev pub type_array_span : TypeArray → Span
type_array_span it = (out-TypeArray it).span

abbrev pub trait_bound_span : TraitBound → Span
trait_bound_span it = (out-TraitBound it).span

abbrev pub expr_layer_span : ExprLayer → Span
expr_layer_span (Expr-F.Lit it) = lit_span it
expr_layer_span (Expr-F.Expr::Path it) = expr_path_span it
expr_layer_span (Expr-F.Expr::Array it) = it.span
expr_layer_span (Expr-F.Repeat expr len span) = span
expr_layer_span (Expr-F.Expr::Tuple elems span) = span
expr_layer_span (Expr-F.Expr::Paren expr span) = span
expr_layer_span (Expr-F.Expr::Group expr span) = span
expr_layer_span (Expr-F.Unary op expr span) = span
expr_layer_span (Expr-F.Expr::Reference mutable expr span) = span
expr_layer_span (Expr-F.Binary left op right span) = span
expr_layer_span (Expr-F.Call func args span) = span
expr_layer_span (Expr-F.MethodCall receiver method turbofish args span) = span
expr_layer_span (Expr-F.Field base member span) = span
expr_layer_span (Expr-F.Index expr index span) = span
expr_layer_span (Expr-F.Try expr span) = span
expr_layer_span (Expr-F.Range it) = it.span
expr_layer_span (Expr-F.Closure it) = it.span
expr_layer_span (Expr-F.Block stmts last span) = span
expr_layer_span (Expr-F.Expr::Infer span) = span
expr_layer_span (Expr-F.Verbatim tokens) = stream_span tokens

abbrev pub expr_span : Expr → Span
expr_span expr = expr_layer_span (out-Expr expr)

abbrev pub member_span : Member → Span
member_span (member.Named it) = it.span
member_span (member.Unnamed it) = it.span

abbrev pub type_layer_span : TypeLayer → Span
type_layer_span (Type-F.Type::Path it) = type_path_span it
type_layer_span (Type-F.Type::Reference it) = it.span
type_layer_span (Type-F.Ptr it) = it.span
type_layer_span (Type-F.Slice it) = it.span
type_layer_span (Type-F.Type::Array it) = type_array_span it
type_layer_span (Type-F.Type::Tuple it) = it.span
type_layer_span (Type-F.Type::Paren it) = it.span
type_layer_span (Type-F.Type::Group it) = it.span
type_layer_span (Type-F.FnPtr it) = it.span
type_layer_span (Type-F.TraitObject it) = it.span
type_layer_span (Type-F.ImplTrait it) = it.span
type_layer_span (Type-F.Never it) = it.span
type_layer_span (Type-F.Type::Infer it) = it.span

abbrev pub type_span : Type' → Span
type_span ty = type_layer_span (out-Type ty)

-- the `->` is not kept
abbrev pub return_span : {T : Type 0} → (T → Span) → ReturnType T → Span
return_span span_of output.Default = CallSite
return_span span_of (output.Ty it) = span_of it

abbrev pub bound_layer_span : TypeParamBoundLayer → Span
bound_layer_span (TypeParamBound-F.Trait it) = trait_bound_span it
bound_layer_span (TypeParamBound-F.TypeParamBound::Lifetime it) = lifetime_span it

abbrev pub bound_span : TypeParamBound → Span
bound_span bound = bound_layer_span (out-TypeParamBound bound)

abbrev pub argument_layer_span : GenericArgumentLayer → Span
argument_layer_span (GenericArgument-F.GenericArgument::Lifetime it) = lifetime_span it
argument_layer_span (GenericArgument-F.Ty it) = type_span it
argument_layer_span (GenericArgument-F.Const it) = expr_span it
argument_layer_span (GenericArgument-F.AssocType ident ty span) = span
argument_layer_span (GenericArgument-F.AssocConst ident value span) = span
argument_layer_span (GenericArgument-F.Constraint ident bounds span) = span

abbrev pub argument_span : GenericArgument → Span
argument_span argument = argument_layer_span (out-GenericArgument argument)

-- the angles are not kept
abbrev pub arguments_layer_span : PathArgumentsLayer → Span
arguments_layer_span PathArguments-F.None = CallSite
arguments_layer_span (PathArguments-F.AngleBracketed arguments) = list_span argument_span arguments
arguments_layer_span (PathArguments-F.Parenthesized inputs output span) = span

abbrev pub arguments_span : PathArguments → Span
arguments_span arguments = arguments_layer_span (out-PathArguments arguments)

abbrev pub meta_span : Meta → Span
meta_span (meta.Path it) = path_span it
meta_span (meta.List it) = it.span
meta_span (meta.NameValue it) = it.span

abbrev pub visibility_span : Visibility → Span
visibility_span visibility.Inherited = CallSite
visibility_span (visibility.Public span) = span
visibility_span (visibility.Restricted in_token path span) = span

abbrev pub fields_span : Fields → Span
fields_span (fields.Named it) = it.span
fields_span (fields.Unnamed it) = it.span
fields_span fields.Unit = CallSite

abbrev pub body_span : Data → Span
body_span (body.Struct it) = it.span
body_span (body.Enum it) = it.span
body_span (body.Union it) = it.span

-- without parameters no token is written, whatever span is kept; a `where` clause stands elsewhere
abbrev pub span_beside : {A : Type 0} → List A → Span → Span
span_beside [] span = CallSite
span_beside (first ∷ more) span = span

abbrev pub generics_span : Generics → Span
generics_span it = span_beside it.params it.span

abbrev pub param_span : GenericParam → Span
param_span (param.Lifetime it) = it.span
param_span (param.Ty it) = it.span
param_span (param.Const it) = it.span

abbrev pub predicate_span : WherePredicate → Span
predicate_span (predicate.Lifetime lifetime bounds span) = span
predicate_span (predicate.Ty lifetimes bounded_ty bounds span) = span
