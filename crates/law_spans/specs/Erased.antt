-- Nodes with their spans erased: the same node, with every span at the call site.
use Rattle.std.specs.Prelude.{map, option_map}
use Rattle.tok_types.specs.Respan.{stream_at, tree_at}
use Rattle.tok_types.specs.declared.ident.Ident.{Ident}
use Rattle.tok_types.specs.declared.ident.Lifetime.{Lifetime}
use Rattle.tok_types.specs.declared.span.Span.TheVariants.{CallSite}
use Rattle.tok_types.specs.declared.tree.Literal.{Literal}
use Rattle.tok_types.specs.declared.tree.TokenStream.{TokenStream}
use Rattle.tok_types.specs.declared.tree.TokenTree.{TokenTree}
use Rattle.node_expr.specs.Layers.{ExprLayer, TypeParamBoundLayer, GenericArgumentLayer, PathArgumentsLayer, TypeLayer, ExprPathLayer, TraitBoundLayer, PathLayer, PathSegmentLayer, TypeArrayLayer, TypePathLayer}
use Rattle.node_make.specs.Make.{make_path, make_segment, make_expr_path, make_type_path, make_type_array, make_trait_bound}
use Rattle.node_expr.specs.declared.expr.Expr.{Expr}
use Rattle.node_expr.specs.declared.expr.Expr.TheFolds.{fold-Expr, fold-TypeParamBound, fold-GenericArgument, fold-PathArguments, fold-Type, fold-ExprPath, fold-TraitBound, fold-Path, fold-PathSegment, fold-TypeArray, fold-TypePath}
use Rattle.node_expr.specs.declared.expr.Expr.TheOpen.{Expr-F, TypeParamBound-F, GenericArgument-F, PathArguments-F, Type-F}
use Rattle.node_expr.specs.declared.expr.Expr.TheVariants as expr
use Rattle.node_expr.specs.declared.expr.ExprPath.{ExprPath}
use Rattle.node_expr.specs.declared.expr.Member.{Member}
use Rattle.node_expr.specs.declared.expr.Member.TheVariants as member
use Rattle.node_expr.specs.declared.generics.TraitBound.{TraitBound}
use Rattle.node_expr.specs.declared.generics.TypeParamBound.{TypeParamBound}
use Rattle.node_expr.specs.declared.generics.TypeParamBound.TheVariants as bound
use Rattle.node_expr.specs.declared.lit.Lit.{Lit}
use Rattle.node_expr.specs.declared.lit.Lit.TheVariants as lit
use Rattle.node_expr.specs.declared.lit.LitInt.{LitInt}
use Rattle.node_expr.specs.declared.path.GenericArgument.{GenericArgument}
use Rattle.node_expr.specs.declared.path.GenericArgument.TheVariants as argument
use Rattle.node_expr.specs.declared.path.Path.{Path}
use Rattle.node_expr.specs.declared.path.PathArguments.{PathArguments}
use Rattle.node_expr.specs.declared.path.PathArguments.TheVariants as arguments
use Rattle.node_expr.specs.declared.path.PathSegment.{PathSegment}
use Rattle.node_expr.specs.declared.path.QSelf.{QSelf}
use Rattle.node_expr.specs.declared.ty.FnArg.{FnArg}
use Rattle.node_expr.specs.declared.ty.NamedArg.{NamedArg}
use Rattle.node_expr.specs.declared.ty.ReturnType.{ReturnType}
use Rattle.node_expr.specs.declared.ty.ReturnType.TheVariants as output
use Rattle.node_expr.specs.declared.ty.«Type».{«Type» as Type'}
use Rattle.node_expr.specs.declared.ty.«Type».TheVariants as ty
use Rattle.node_expr.specs.declared.ty.TypeArray.{TypeArray}
use Rattle.node_expr.specs.declared.ty.TypePath.{TypePath}

-- ---- tokens, and what is made of one token

abbrev pub erased_tree : TokenTree → TokenTree
erased_tree = tree_at CallSite

abbrev pub erased_stream : TokenStream → TokenStream
erased_stream = stream_at CallSite

abbrev pub erased_ident : Ident → Ident
erased_ident it = record it { span = CallSite }

abbrev pub erased_lifetime : Lifetime → Lifetime
erased_lifetime it = record { ident = erased_ident it.ident }

abbrev pub erased_literal : Literal → Literal
erased_literal it = record it { span = CallSite }

abbrev pub erased_int : LitInt → LitInt
erased_int it = record it { token = erased_literal it.token; span = CallSite }

abbrev pub erased_lit : Lit → Lit
erased_lit (lit.Str it) = lit.Str (record it { token = erased_literal it.token; span = CallSite })
erased_lit (lit.ByteStr it) = lit.ByteStr (record it { token = erased_literal it.token; span = CallSite })
erased_lit (lit.Byte it) = lit.Byte (record it { token = erased_literal it.token; span = CallSite })
erased_lit (lit.Char it) = lit.Char (record it { token = erased_literal it.token; span = CallSite })
erased_lit (lit.Int it) = lit.Int (erased_int it)
erased_lit (lit.Float it) = lit.Float (record it { token = erased_literal it.token; span = CallSite })
erased_lit (lit.«Bool» it) = lit.«Bool» (record it { span = CallSite })
erased_lit (lit.Verbatim it) = lit.Verbatim (erased_literal it)

abbrev pub erased_member : Member → Member
erased_member (member.Named it) = member.Named (erased_ident it)
erased_member (member.Unnamed it) = member.Unnamed (erased_int it)

-- ---- one level of a node, whose parts are bare

abbrev pub qself_bared : QSelf Type' → QSelf Type'
qself_bared it = record it { span = CallSite }

abbrev pub named_arg_bared : NamedArg Type' → NamedArg Type'
named_arg_bared it = record it { name = option_map erased_ident it.name; span = CallSite }

abbrev pub expr_bared : ExprLayer → Expr
expr_bared (Expr-F.Lit it) = expr.Lit (erased_lit it)
expr_bared (Expr-F.Expr::Path it) = expr.Path it
expr_bared (Expr-F.Expr::Array it) = expr.Array (record it { span = CallSite })
expr_bared (Expr-F.Repeat elem len span) = expr.Repeat elem len CallSite
expr_bared (Expr-F.Expr::Tuple elems span) = expr.Tuple elems CallSite
expr_bared (Expr-F.Expr::Paren inner span) = expr.Paren inner CallSite
expr_bared (Expr-F.Expr::Group inner span) = expr.Group inner CallSite
expr_bared (Expr-F.Unary op operand span) = expr.Unary op operand CallSite
expr_bared (Expr-F.Expr::Reference mutable operand span) = expr.Reference mutable operand CallSite
expr_bared (Expr-F.Binary left op right span) = expr.Binary left op right CallSite
expr_bared (Expr-F.Call func args span) = expr.Call func args CallSite
expr_bared (Expr-F.MethodCall receiver method turbofish args span) = expr.MethodCall receiver (erased_ident method) turbofish args CallSite
expr_bared (Expr-F.Field base member span) = expr.Field base (erased_member member) CallSite
expr_bared (Expr-F.Index base at span) = expr.Index base at CallSite
expr_bared (Expr-F.Try inner span) = expr.Try inner CallSite
expr_bared (Expr-F.Range it) = expr.Range (record it { span = CallSite })
expr_bared (Expr-F.Closure it) = expr.Closure (record it { tokens = erased_stream it.tokens; span = CallSite })
expr_bared (Expr-F.Block stmts last span) = expr.Block stmts last CallSite
expr_bared (Expr-F.Expr::Infer span) = expr.Infer CallSite
expr_bared (Expr-F.Verbatim it) = expr.Verbatim (erased_stream it)

abbrev pub type_bared : TypeLayer → Type'
type_bared (Type-F.Type::Path it) = ty.Path it
type_bared (Type-F.Type::Reference it) = ty.Reference (record it { lifetime = option_map erased_lifetime it.lifetime; span = CallSite })
type_bared (Type-F.Ptr it) = ty.Ptr (record it { span = CallSite })
type_bared (Type-F.Slice it) = ty.Slice (record it { span = CallSite })
type_bared (Type-F.Type::Array it) = ty.Array it
type_bared (Type-F.Type::Tuple it) = ty.Tuple (record it { span = CallSite })
type_bared (Type-F.Type::Paren it) = ty.Paren (record it { span = CallSite })
type_bared (Type-F.Type::Group it) = ty.Group (record it { span = CallSite })
type_bared (Type-F.FnPtr it) = ty.FnPtr (record it { lifetimes = map erased_lifetime it.lifetimes; inputs = map named_arg_bared it.inputs; span = CallSite })
type_bared (Type-F.TraitObject it) = ty.TraitObject (record it { span = CallSite })
type_bared (Type-F.ImplTrait it) = ty.ImplTrait (record it { span = CallSite })
type_bared (Type-F.Never it) = ty.Never (record { span = CallSite })
type_bared (Type-F.Type::Infer it) = ty.Infer (record { span = CallSite })

abbrev pub argument_bared : GenericArgumentLayer → GenericArgument
argument_bared (GenericArgument-F.GenericArgument::Lifetime it) = argument.Lifetime (erased_lifetime it)
argument_bared (GenericArgument-F.Ty it) = argument.Ty it
argument_bared (GenericArgument-F.Const it) = argument.Const it
argument_bared (GenericArgument-F.AssocType ident it span) = argument.AssocType (erased_ident ident) it CallSite
argument_bared (GenericArgument-F.AssocConst ident value span) = argument.AssocConst (erased_ident ident) value CallSite
argument_bared (GenericArgument-F.Constraint ident bounds span) = argument.Constraint (erased_ident ident) bounds CallSite

abbrev pub arguments_bared : PathArgumentsLayer → PathArguments
arguments_bared PathArguments-F.None = arguments.None
arguments_bared (PathArguments-F.AngleBracketed args) = arguments.AngleBracketed args
arguments_bared (PathArguments-F.Parenthesized inputs output span) = arguments.Parenthesized inputs output CallSite

abbrev pub bound_bared : TypeParamBoundLayer → TypeParamBound
bound_bared (TypeParamBound-F.Trait it) = bound.Trait it
bound_bared (TypeParamBound-F.TypeParamBound::Lifetime it) = bound.Lifetime (erased_lifetime it)

abbrev pub trait_bound_bared : TraitBoundLayer → TraitBound
trait_bound_bared it = make_trait_bound it.maybe (map erased_lifetime it.lifetimes) it.path CallSite

abbrev pub path_bared : PathLayer → Path
path_bared it = make_path it.leading_colon it.segments CallSite

abbrev pub segment_bared : PathSegmentLayer → PathSegment
segment_bared it = make_segment (erased_ident it.ident) it.arguments CallSite

abbrev pub expr_path_bared : ExprPathLayer → ExprPath
expr_path_bared it = make_expr_path (option_map qself_bared it.qself) it.path CallSite

abbrev pub type_path_bared : TypePathLayer → TypePath
type_path_bared it = make_type_path (option_map qself_bared it.qself) it.path CallSite

abbrev pub array_bared : TypeArrayLayer → TypeArray
array_bared it = make_type_array it.elem it.len CallSite

-- ---- whole nodes

abbrev pub erased_expr : Expr → Expr
erased_expr = fold-Expr Expr TypeParamBound GenericArgument PathArguments Type' ExprPath TraitBound Path PathSegment TypeArray TypePath
    expr_bared bound_bared argument_bared arguments_bared type_bared expr_path_bared trait_bound_bared path_bared segment_bared array_bared type_path_bared

abbrev pub erased_bound : TypeParamBound → TypeParamBound
erased_bound = fold-TypeParamBound Expr TypeParamBound GenericArgument PathArguments Type' ExprPath TraitBound Path PathSegment TypeArray TypePath
    expr_bared bound_bared argument_bared arguments_bared type_bared expr_path_bared trait_bound_bared path_bared segment_bared array_bared type_path_bared

abbrev pub erased_argument : GenericArgument → GenericArgument
erased_argument = fold-GenericArgument Expr TypeParamBound GenericArgument PathArguments Type' ExprPath TraitBound Path PathSegment TypeArray TypePath
    expr_bared bound_bared argument_bared arguments_bared type_bared expr_path_bared trait_bound_bared path_bared segment_bared array_bared type_path_bared

abbrev pub erased_arguments : PathArguments → PathArguments
erased_arguments = fold-PathArguments Expr TypeParamBound GenericArgument PathArguments Type' ExprPath TraitBound Path PathSegment TypeArray TypePath
    expr_bared bound_bared argument_bared arguments_bared type_bared expr_path_bared trait_bound_bared path_bared segment_bared array_bared type_path_bared

abbrev pub erased_type : Type' → Type'
erased_type = fold-Type Expr TypeParamBound GenericArgument PathArguments Type' ExprPath TraitBound Path PathSegment TypeArray TypePath
    expr_bared bound_bared argument_bared arguments_bared type_bared expr_path_bared trait_bound_bared path_bared segment_bared array_bared type_path_bared

abbrev pub erased_expr_path : ExprPath → ExprPath
erased_expr_path = fold-ExprPath Expr TypeParamBound GenericArgument PathArguments Type' ExprPath TraitBound Path PathSegment TypeArray TypePath
    expr_bared bound_bared argument_bared arguments_bared type_bared expr_path_bared trait_bound_bared path_bared segment_bared array_bared type_path_bared

abbrev pub erased_trait_bound : TraitBound → TraitBound
erased_trait_bound = fold-TraitBound Expr TypeParamBound GenericArgument PathArguments Type' ExprPath TraitBound Path PathSegment TypeArray TypePath
    expr_bared bound_bared argument_bared arguments_bared type_bared expr_path_bared trait_bound_bared path_bared segment_bared array_bared type_path_bared

abbrev pub erased_path : Path → Path
erased_path = fold-Path Expr TypeParamBound GenericArgument PathArguments Type' ExprPath TraitBound Path PathSegment TypeArray TypePath
    expr_bared bound_bared argument_bared arguments_bared type_bared expr_path_bared trait_bound_bared path_bared segment_bared array_bared type_path_bared

abbrev pub erased_segment : PathSegment → PathSegment
erased_segment = fold-PathSegment Expr TypeParamBound GenericArgument PathArguments Type' ExprPath TraitBound Path PathSegment TypeArray TypePath
    expr_bared bound_bared argument_bared arguments_bared type_bared expr_path_bared trait_bound_bared path_bared segment_bared array_bared type_path_bared

abbrev pub erased_array : TypeArray → TypeArray
erased_array = fold-TypeArray Expr TypeParamBound GenericArgument PathArguments Type' ExprPath TraitBound Path PathSegment TypeArray TypePath
    expr_bared bound_bared argument_bared arguments_bared type_bared expr_path_bared trait_bound_bared path_bared segment_bared array_bared type_path_bared

abbrev pub erased_type_path : TypePath → TypePath
erased_type_path = fold-TypePath Expr TypeParamBound GenericArgument PathArguments Type' ExprPath TraitBound Path PathSegment TypeArray TypePath
    expr_bared bound_bared argument_bared arguments_bared type_bared expr_path_bared trait_bound_bared path_bared segment_bared array_bared type_path_bared

-- ---- what stands in a node outside the cycle

abbrev pub erased_qself : QSelf Type' → QSelf Type'
erased_qself it = record { ty = erased_type it.ty; position = it.position; span = CallSite }

abbrev pub erased_named_arg : NamedArg Type' → NamedArg Type'
erased_named_arg it = record { name = option_map erased_ident it.name; ty = erased_type it.ty; span = CallSite }

abbrev pub erased_output : ReturnType Type' → ReturnType Type'
erased_output output.Default = output.Default
erased_output (output.Ty it) = output.Ty (erased_type it)

abbrev pub erased_fn_arg : FnArg → FnArg
erased_fn_arg it = record { pat = erased_stream it.pat; ty = erased_type it.ty; span = CallSite }
