-- The depth of each node, by the depths of its parts.
use Rattle.std.proofs.Common.{◌≡◌, suc, max, Bool, List, map, Option, Some, None, option_map}
use Rattle.tok_types.specs.declared.ident.Ident.{Ident}
use Rattle.tok_types.specs.declared.ident.Lifetime.{Lifetime}
use Rattle.tok_types.specs.declared.span.Span.{Span}
use Rattle.tok_types.specs.declared.tree.TokenStream.{TokenStream}
use Rattle.node_expr.specs.declared.expr.BinOp.{BinOp}
use Rattle.node_expr.specs.declared.expr.Expr.{Expr, the_lemmas}
use Rattle.node_expr.specs.declared.expr.Expr.TheVariants as expr
use Rattle.node_expr.specs.declared.expr.ExprArray.{ExprArray}
use Rattle.node_expr.specs.declared.expr.ExprClosure.{ExprClosure}
use Rattle.node_expr.specs.declared.expr.ExprPath.{ExprPath, roll-ExprPath}
use Rattle.node_expr.specs.declared.expr.ExprRange.{ExprRange}
use Rattle.node_expr.specs.declared.expr.Member.{Member}
use Rattle.node_expr.specs.declared.expr.UnOp.{UnOp}
use Rattle.node_expr.specs.declared.generics.TraitBound.{TraitBound, roll-TraitBound}
use Rattle.node_expr.specs.declared.generics.TypeParamBound.{TypeParamBound}
use Rattle.node_expr.specs.declared.generics.TypeParamBound.TheVariants as bound
use Rattle.node_expr.specs.declared.lit.Lit.{Lit}
use Rattle.node_expr.specs.declared.path.GenericArgument.{GenericArgument}
use Rattle.node_expr.specs.declared.path.GenericArgument.TheVariants as argument
use Rattle.node_expr.specs.declared.path.Path.{Path, roll-Path}
use Rattle.node_expr.specs.declared.path.PathArguments.{PathArguments}
use Rattle.node_expr.specs.declared.path.PathArguments.TheVariants as arguments
use Rattle.node_expr.specs.declared.path.PathSegment.{PathSegment, roll-PathSegment}
use Rattle.node_expr.specs.declared.path.QSelf.{QSelf}
use Rattle.node_expr.specs.declared.ty.NamedArg.{NamedArg}
use Rattle.node_expr.specs.declared.ty.ReturnType.{ReturnType}
use Rattle.node_expr.specs.declared.ty.ReturnType.TheVariants as output
use Rattle.node_expr.specs.declared.ty.«Type».{«Type» as Type'}
use Rattle.node_expr.specs.declared.ty.«Type».TheVariants as ty
use Rattle.node_expr.specs.declared.ty.TypeArray.{TypeArray, roll-TypeArray}
use Rattle.node_expr.specs.declared.ty.TypeFnPtr.{TypeFnPtr}
use Rattle.node_expr.specs.declared.ty.TypeGroup.{TypeGroup}
use Rattle.node_expr.specs.declared.ty.TypeImplTrait.{TypeImplTrait}
use Rattle.node_expr.specs.declared.ty.TypeInfer.{TypeInfer}
use Rattle.node_expr.specs.declared.ty.TypeNever.{TypeNever}
use Rattle.node_expr.specs.declared.ty.TypeParen.{TypeParen}
use Rattle.node_expr.specs.declared.ty.TypePath.{TypePath, roll-TypePath}
use Rattle.node_expr.specs.declared.ty.TypePtr.{TypePtr}
use Rattle.node_expr.specs.declared.ty.TypeReference.{TypeReference}
use Rattle.node_expr.specs.declared.ty.TypeSlice.{TypeSlice}
use Rattle.node_expr.specs.declared.ty.TypeTraitObject.{TypeTraitObject}
use Rattle.node_expr.specs.declared.ty.TypeTuple.{TypeTuple}
use Rattle.syn_grammar.specs.Depth.{deepest, optional, inputs_depth, input_deep, return_depth, expr_depth, type_depth, bound_depth, argument_depth, arguments_depth, trait_bound_depth, path_depth, segment_depth, expr_path_depth, type_path_depth, array_depth}

pub expr_depth-Lit : (it : Lit) → expr_depth (expr.Lit it) ≡ 1
expr_depth-Lit it = search the_lemmas

pub expr_depth-Path : (it : ExprPath) → expr_depth (expr.Path it) ≡ suc (expr_path_depth it)
expr_depth-Path it = search the_lemmas

pub expr_depth-Array : (it : ExprArray Expr) → expr_depth (expr.Array it) ≡ suc (deepest (map expr_depth it.elems))
expr_depth-Array it = search the_lemmas

pub expr_depth-Repeat : (a len : Expr) (span : Span) → expr_depth (expr.Repeat a len span) ≡ suc (max (expr_depth a) (expr_depth len))
expr_depth-Repeat a len span = search the_lemmas

pub expr_depth-Tuple : (elems : List Expr) (span : Span) → expr_depth (expr.Tuple elems span) ≡ suc (deepest (map expr_depth elems))
expr_depth-Tuple elems span = search the_lemmas

pub expr_depth-Paren : (a : Expr) (span : Span) → expr_depth (expr.Paren a span) ≡ suc (expr_depth a)
expr_depth-Paren a span = search the_lemmas

pub expr_depth-Group : (a : Expr) (span : Span) → expr_depth (expr.Group a span) ≡ suc (expr_depth a)
expr_depth-Group a span = search the_lemmas

pub expr_depth-Unary : (op : UnOp) (a : Expr) (span : Span) → expr_depth (expr.Unary op a span) ≡ suc (expr_depth a)
expr_depth-Unary op a span = search the_lemmas

pub expr_depth-Reference : (mutable : Bool) (a : Expr) (span : Span) → expr_depth (expr.Reference mutable a span) ≡ suc (expr_depth a)
expr_depth-Reference mutable a span = search the_lemmas

pub expr_depth-Binary : (left : Expr) (op : BinOp) (right : Expr) (span : Span) → expr_depth (expr.Binary left op right span) ≡ suc (max (expr_depth left) (expr_depth right))
expr_depth-Binary left op right span = search the_lemmas

pub expr_depth-Call : (func : Expr) (args : List Expr) (span : Span) → expr_depth (expr.Call func args span) ≡ suc (max (expr_depth func) (deepest (map expr_depth args)))
expr_depth-Call func args span = search the_lemmas

pub expr_depth-MethodCall : (receiver : Expr) (method : Ident) (turbofish : List GenericArgument) (args : List Expr) (span : Span) → expr_depth (expr.MethodCall receiver method turbofish args span) ≡ suc (max (max (expr_depth receiver) (deepest (map argument_depth turbofish))) (deepest (map expr_depth args)))
expr_depth-MethodCall receiver method turbofish args span = search the_lemmas

pub expr_depth-Field : (base : Expr) (member : Member) (span : Span) → expr_depth (expr.Field base member span) ≡ suc (expr_depth base)
expr_depth-Field base member span = search the_lemmas

pub expr_depth-Index : (a index : Expr) (span : Span) → expr_depth (expr.Index a index span) ≡ suc (max (expr_depth a) (expr_depth index))
expr_depth-Index a index span = search the_lemmas

pub expr_depth-Try : (a : Expr) (span : Span) → expr_depth (expr.Try a span) ≡ suc (expr_depth a)
expr_depth-Try a span = search the_lemmas

range : (start end : Option Expr) (closed : Bool) (span : Span) → expr_depth (expr.Range (record { start = start; end = end; closed = closed; span = span })) ≡ suc (max (optional (option_map expr_depth start)) (optional (option_map expr_depth end)))
range None None closed span = search the_lemmas
range None (Some end) closed span = search the_lemmas
range (Some start) None closed span = search the_lemmas
range (Some start) (Some end) closed span = search the_lemmas

pub expr_depth-Range : (it : ExprRange Expr) → expr_depth (expr.Range it) ≡ suc (max (optional (option_map expr_depth it.start)) (optional (option_map expr_depth it.end)))
expr_depth-Range it = range it.start it.end it.closed it.span

pub expr_depth-Closure : (it : ExprClosure Expr) → expr_depth (expr.Closure it) ≡ suc (expr_depth it.body)
expr_depth-Closure it = search the_lemmas

pub expr_depth-Block : (stmts : List Expr) (last : Option Expr) (span : Span) → expr_depth (expr.Block stmts last span) ≡ suc (max (deepest (map expr_depth stmts)) (optional (option_map expr_depth last)))
expr_depth-Block stmts None span = search the_lemmas
expr_depth-Block stmts (Some last) span = search the_lemmas

pub expr_depth-Infer : (span : Span) → expr_depth (expr.Infer span) ≡ 1
expr_depth-Infer span = search the_lemmas

pub expr_depth-Verbatim : (tokens : TokenStream) → expr_depth (expr.Verbatim tokens) ≡ 1
expr_depth-Verbatim tokens = search the_lemmas

pub type_depth-Path : (it : TypePath) → type_depth (ty.Path it) ≡ suc (type_path_depth it)
type_depth-Path it = search the_lemmas

pub type_depth-Reference : (it : TypeReference Type') → type_depth (ty.Reference it) ≡ suc (type_depth it.elem)
type_depth-Reference it = search the_lemmas

pub type_depth-Ptr : (it : TypePtr Type') → type_depth (ty.Ptr it) ≡ suc (type_depth it.elem)
type_depth-Ptr it = search the_lemmas

pub type_depth-Slice : (it : TypeSlice Type') → type_depth (ty.Slice it) ≡ suc (type_depth it.elem)
type_depth-Slice it = search the_lemmas

pub type_depth-Array : (it : TypeArray) → type_depth (ty.Array it) ≡ suc (array_depth it)
type_depth-Array it = search the_lemmas

pub type_depth-Tuple : (it : TypeTuple Type') → type_depth (ty.Tuple it) ≡ suc (deepest (map type_depth it.elems))
type_depth-Tuple it = search the_lemmas

pub type_depth-Paren : (it : TypeParen Type') → type_depth (ty.Paren it) ≡ suc (type_depth it.elem)
type_depth-Paren it = search the_lemmas

pub type_depth-Group : (it : TypeGroup Type') → type_depth (ty.Group it) ≡ suc (type_depth it.elem)
type_depth-Group it = search the_lemmas

fn_ptr : (lifetimes : List Lifetime) (inputs : List (NamedArg Type')) (output : ReturnType Type') (span : Span) → type_depth (ty.FnPtr (record { lifetimes = lifetimes; inputs = inputs; output = output; span = span })) ≡ suc (max (inputs_depth (map input_deep inputs)) (return_depth output))
fn_ptr lifetimes inputs output.Default span = search the_lemmas
fn_ptr lifetimes inputs (output.Ty it) span = search the_lemmas

pub type_depth-FnPtr : (it : TypeFnPtr Type') → type_depth (ty.FnPtr it) ≡ suc (max (inputs_depth (map input_deep it.inputs)) (return_depth it.output))
type_depth-FnPtr it = fn_ptr it.lifetimes it.inputs it.output it.span

pub type_depth-TraitObject : (it : TypeTraitObject TypeParamBound) → type_depth (ty.TraitObject it) ≡ suc (deepest (map bound_depth it.bounds))
type_depth-TraitObject it = search the_lemmas

pub type_depth-ImplTrait : (it : TypeImplTrait TypeParamBound) → type_depth (ty.ImplTrait it) ≡ suc (deepest (map bound_depth it.bounds))
type_depth-ImplTrait it = search the_lemmas

pub type_depth-Never : (it : TypeNever) → type_depth (ty.Never it) ≡ 1
type_depth-Never it = search the_lemmas

pub type_depth-Infer : (it : TypeInfer) → type_depth (ty.Infer it) ≡ 1
type_depth-Infer it = search the_lemmas

pub argument_depth-Lifetime : (it : Lifetime) → argument_depth (argument.Lifetime it) ≡ 0
argument_depth-Lifetime it = search the_lemmas

pub argument_depth-Ty : (it : Type') → argument_depth (argument.Ty it) ≡ type_depth it
argument_depth-Ty it = search the_lemmas

pub argument_depth-Const : (it : Expr) → argument_depth (argument.Const it) ≡ expr_depth it
argument_depth-Const it = search the_lemmas

pub argument_depth-AssocType : (ident : Ident) (it : Type') (span : Span) → argument_depth (argument.AssocType ident it span) ≡ type_depth it
argument_depth-AssocType ident it span = search the_lemmas

pub argument_depth-AssocConst : (ident : Ident) (value : Expr) (span : Span) → argument_depth (argument.AssocConst ident value span) ≡ expr_depth value
argument_depth-AssocConst ident value span = search the_lemmas

pub argument_depth-Constraint : (ident : Ident) (bounds : List TypeParamBound) (span : Span) → argument_depth (argument.Constraint ident bounds span) ≡ suc (deepest (map bound_depth bounds))
argument_depth-Constraint ident bounds span = search the_lemmas

pub arguments_depth-None : arguments_depth arguments.None ≡ 0
arguments_depth-None = search the_lemmas

pub arguments_depth-AngleBracketed : (args : List GenericArgument) → arguments_depth (arguments.AngleBracketed args) ≡ deepest (map argument_depth args)
arguments_depth-AngleBracketed args = search the_lemmas

pub arguments_depth-Parenthesized : (inputs : List Type') (output : ReturnType Type') (span : Span) → arguments_depth (arguments.Parenthesized inputs output span) ≡ max (deepest (map type_depth inputs)) (return_depth output)
arguments_depth-Parenthesized inputs output.Default span = search the_lemmas
arguments_depth-Parenthesized inputs (output.Ty it) span = search the_lemmas

pub bound_depth-Trait : (it : TraitBound) → bound_depth (bound.Trait it) ≡ trait_bound_depth it
bound_depth-Trait it = search the_lemmas

pub bound_depth-Lifetime : (it : Lifetime) → bound_depth (bound.Lifetime it) ≡ 0
bound_depth-Lifetime it = search the_lemmas

pub trait_bound_depth-roll : (maybe : Bool) (lifetimes : List Lifetime) (path : Path) (span : Span) → trait_bound_depth (roll-TraitBound (record { maybe = maybe; lifetimes = lifetimes; path = path; span = span })) ≡ path_depth path
trait_bound_depth-roll maybe lifetimes path span = search the_lemmas

pub path_depth-roll : (leading_colon : Bool) (segments : List PathSegment) (span : Span) → path_depth (roll-Path (record { leading_colon = leading_colon; segments = segments; span = span })) ≡ deepest (map segment_depth segments)
path_depth-roll leading_colon segments span = search the_lemmas

pub segment_depth-roll : (ident : Ident) (arguments : PathArguments) (span : Span) → segment_depth (roll-PathSegment (record { ident = ident; arguments = arguments; span = span })) ≡ arguments_depth arguments
segment_depth-roll ident arguments span = search the_lemmas

pub expr_path_depth-roll : (qself : Option (QSelf Type')) (path : Path) (span : Span) → expr_path_depth (roll-ExprPath (record { qself = qself; path = path; span = span })) ≡ max (optional (option_map (λ self. type_depth self.ty) qself)) (path_depth path)
expr_path_depth-roll None path span = search the_lemmas
expr_path_depth-roll (Some self) path span = search the_lemmas

pub type_path_depth-roll : (qself : Option (QSelf Type')) (path : Path) (span : Span) → type_path_depth (roll-TypePath (record { qself = qself; path = path; span = span })) ≡ max (optional (option_map (λ self. type_depth self.ty) qself)) (path_depth path)
type_path_depth-roll None path span = search the_lemmas
type_path_depth-roll (Some self) path span = search the_lemmas

pub array_depth-roll : (elem : Type') (len : Expr) (span : Span) → array_depth (roll-TypeArray (record { elem = elem; len = len; span = span })) ≡ max (type_depth elem) (expr_depth len)
array_depth-roll elem len span = search the_lemmas

-- all of them
pub ruleset depths = (expr_depth-Lit, expr_depth-Path, expr_depth-Array, expr_depth-Repeat, expr_depth-Tuple, expr_depth-Paren, expr_depth-Group, expr_depth-Unary, expr_depth-Reference, expr_depth-Binary, expr_depth-Call, expr_depth-MethodCall, expr_depth-Field, expr_depth-Index, expr_depth-Try, expr_depth-Range, expr_depth-Closure, expr_depth-Block, expr_depth-Infer, expr_depth-Verbatim, type_depth-Path, type_depth-Reference, type_depth-Ptr, type_depth-Slice, type_depth-Array, type_depth-Tuple, type_depth-Paren, type_depth-Group, type_depth-FnPtr, type_depth-TraitObject, type_depth-ImplTrait, type_depth-Never, type_depth-Infer, argument_depth-Lifetime, argument_depth-Ty, argument_depth-Const, argument_depth-AssocType, argument_depth-AssocConst, argument_depth-Constraint, arguments_depth-None, arguments_depth-AngleBracketed, arguments_depth-Parenthesized, bound_depth-Trait, bound_depth-Lifetime, trait_bound_depth-roll, path_depth-roll, segment_depth-roll, expr_path_depth-roll, type_path_depth-roll, array_depth-roll)
