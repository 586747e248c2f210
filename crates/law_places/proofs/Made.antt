-- The place of a node is the one that it is made with.
use Rattle.std.proofs.Common.{◌≡◌, Bool, List, Option, refl, ap}
use Rattle.tok_types.specs.declared.ident.Ident.{Ident}
use Rattle.tok_types.specs.declared.ident.Lifetime.{Lifetime}
use Rattle.tok_types.specs.declared.span.Span.{Span}
use Rattle.tok_types.specs.declared.tree.TokenTree.{TokenTree}
use Rattle.tok_types.specs.declared.tree.TokenStream.{TokenStream}
use Rattle.node_expr.specs.declared.expr.BinOp.{BinOp}
use Rattle.node_expr.specs.Layers.{ExprPathLayer, PathLayer, PathSegmentLayer, TraitBoundLayer, TypeArrayLayer, TypePathLayer}
use Rattle.node_expr.specs.declared.expr.Expr.{Expr}
use Rattle.node_expr.specs.declared.expr.Expr.TheViews.{out-roll-ExprPath, out-roll-Path, out-roll-PathSegment, out-roll-TraitBound, out-roll-TypeArray, out-roll-TypePath}
use Rattle.node_expr.specs.declared.expr.Expr.TheVariants as expr
use Rattle.node_expr.specs.declared.expr.Member.{Member}
use Rattle.node_expr.specs.declared.expr.UnOp.{UnOp}
use Rattle.node_expr.specs.declared.generics.TypeParamBound.{TypeParamBound}
use Rattle.node_expr.specs.declared.generics.TypeParamBound.TheVariants as bound
use Rattle.node_expr.specs.declared.lit.Lit.{Lit}
use Rattle.node_expr.specs.declared.path.GenericArgument.{GenericArgument}
use Rattle.node_expr.specs.declared.path.GenericArgument.TheVariants as generic
use Rattle.node_expr.specs.declared.path.Path.{Path}
use Rattle.node_expr.specs.declared.path.PathArguments.{PathArguments}
use Rattle.node_expr.specs.declared.path.PathArguments.TheVariants as arguments
use Rattle.node_expr.specs.declared.path.PathSegment.{PathSegment}
use Rattle.node_expr.specs.declared.path.QSelf.{QSelf}
use Rattle.node_expr.specs.declared.ty.«Type».{«Type» as Ty}
use Rattle.node_expr.specs.declared.ty.«Type».TheVariants as ty
use Rattle.node_expr.specs.declared.ty.NamedArg.{NamedArg}
use Rattle.node_expr.specs.declared.ty.ReturnType.{ReturnType}
use Rattle.node_span.specs.Spanned.{argument_span, arguments_span, bound_span, expr_span, lifetime_span, lit_span, path_span, segment_span, stream_span, type_span}
use Rattle.syn_grammar.specs.Make as make

-- ---- paths

pub segment-span : (ident : Ident) (arguments : PathArguments) (span : Span) → segment_span (make.segment ident arguments span) ≡ span
segment-span ident arguments span = ap (λ (it : PathSegmentLayer). it.span) (out-roll-PathSegment (record { ident = ident; arguments = arguments; span = span }))

pub path-span : (leading_colon : Bool) (segments : List PathSegment) (span : Span) → path_span (make.path leading_colon segments span) ≡ span
path-span leading_colon segments span = ap (λ (it : PathLayer). it.span) (out-roll-Path (record { leading_colon = leading_colon; segments = segments; span = span }))

pub trait_bound-span : (maybe : Bool) (lifetimes : List Lifetime) (path : Path) (span : Span) → bound_span (make.trait_bound maybe lifetimes path span) ≡ span
trait_bound-span maybe lifetimes path span = rw bound.outs-Trait (ap (λ (it : TraitBoundLayer). it.span) (out-roll-TraitBound (record { maybe = maybe; lifetimes = lifetimes; path = path; span = span })))

pub bound_lifetime-span : (it : Lifetime) → bound_span (bound.Lifetime it) ≡ lifetime_span it
bound_lifetime-span it = rw bound.outs-Lifetime refl

pub argument_lifetime-span : (it : Lifetime) → argument_span (generic.Lifetime it) ≡ lifetime_span it
argument_lifetime-span it = rw generic.outs-Lifetime refl

pub argument_type-span : (it : Ty) → argument_span (generic.Ty it) ≡ type_span it
argument_type-span it = rw generic.outs-Ty refl

pub constant-span : (it : Expr) → argument_span (generic.Const it) ≡ expr_span it
constant-span it = rw generic.outs-Const refl

pub assoc_type-span : (ident : Ident) (it : Ty) (span : Span) → argument_span (generic.AssocType ident it span) ≡ span
assoc_type-span ident it span = rw generic.outs-AssocType refl

pub assoc_const-span : (ident : Ident) (value : Expr) (span : Span) → argument_span (generic.AssocConst ident value span) ≡ span
assoc_const-span ident value span = rw generic.outs-AssocConst refl

pub constraint-span : (ident : Ident) (bounds : List TypeParamBound) (span : Span) → argument_span (generic.Constraint ident bounds span) ≡ span
constraint-span ident bounds span = rw generic.outs-Constraint refl

pub parenthesized-span : (inputs : List Ty) (output : ReturnType Ty) (span : Span) → arguments_span (arguments.Parenthesized inputs output span) ≡ span
parenthesized-span inputs output span = rw arguments.outs-Parenthesized refl

-- ---- types

pub type_path-span : (qself : Option (QSelf Ty)) (path : Path) (span : Span) → type_span (make.type_path qself path span) ≡ span
type_path-span qself path span = rw ty.outs-Path (ap (λ (it : TypePathLayer). it.span) (out-roll-TypePath (record { qself = qself; path = path; span = span })))

pub type_reference-span : (lifetime : Option Lifetime) (mutable : Bool) (elem : Ty) (span : Span) → type_span (make.type_reference lifetime mutable elem span) ≡ span
type_reference-span lifetime mutable elem span = rw ty.outs-Reference refl

pub type_ptr-span : (mutable : Bool) (elem : Ty) (span : Span) → type_span (make.type_ptr mutable elem span) ≡ span
type_ptr-span mutable elem span = rw ty.outs-Ptr refl

pub type_slice-span : (elem : Ty) (span : Span) → type_span (make.type_slice elem span) ≡ span
type_slice-span elem span = rw ty.outs-Slice refl

pub type_array-span : (elem : Ty) (len : Expr) (span : Span) → type_span (make.type_array elem len span) ≡ span
type_array-span elem len span = rw ty.outs-Array (ap (λ (it : TypeArrayLayer). it.span) (out-roll-TypeArray (record { elem = elem; len = len; span = span })))

pub type_tuple-span : (elems : List Ty) (span : Span) → type_span (make.type_tuple elems span) ≡ span
type_tuple-span elems span = rw ty.outs-Tuple refl

pub type_paren-span : (elem : Ty) (span : Span) → type_span (make.type_paren elem span) ≡ span
type_paren-span elem span = rw ty.outs-Paren refl

pub type_fn_ptr-span : (lifetimes : List Lifetime) (inputs : List (NamedArg Ty)) (output : ReturnType Ty) (span : Span) → type_span (make.type_fn_ptr lifetimes inputs output span) ≡ span
type_fn_ptr-span lifetimes inputs output span = rw ty.outs-FnPtr refl

pub type_trait_object-span : (bounds : List TypeParamBound) (span : Span) → type_span (make.type_trait_object bounds span) ≡ span
type_trait_object-span bounds span = rw ty.outs-TraitObject refl

pub type_impl_trait-span : (bounds : List TypeParamBound) (span : Span) → type_span (make.type_impl_trait bounds span) ≡ span
type_impl_trait-span bounds span = rw ty.outs-ImplTrait refl

pub type_never-span : (span : Span) → type_span (make.type_never span) ≡ span
type_never-span span = rw ty.outs-Never refl

pub type_infer-span : (span : Span) → type_span (make.type_infer span) ≡ span
type_infer-span span = rw ty.outs-Infer refl

-- ---- expressions

pub lit-span : (it : Lit) → expr_span (expr.Lit it) ≡ lit_span it
lit-span it = rw expr.outs-Lit refl

pub expr_path-span : (qself : Option (QSelf Ty)) (path : Path) (span : Span) → expr_span (make.expr_path qself path span) ≡ span
expr_path-span qself path span = rw expr.outs-Path (ap (λ (it : ExprPathLayer). it.span) (out-roll-ExprPath (record { qself = qself; path = path; span = span })))

pub array-span : (elems : List Expr) (span : Span) → expr_span (make.expr_array elems span) ≡ span
array-span elems span = rw expr.outs-Array refl

pub repeat-span : (elem len : Expr) (span : Span) → expr_span (expr.Repeat elem len span) ≡ span
repeat-span elem len span = rw expr.outs-Repeat refl

pub tuple-span : (elems : List Expr) (span : Span) → expr_span (expr.Tuple elems span) ≡ span
tuple-span elems span = rw expr.outs-Tuple refl

pub paren-span : (inner : Expr) (span : Span) → expr_span (expr.Paren inner span) ≡ span
paren-span inner span = rw expr.outs-Paren refl

pub group-span : (inner : Expr) (span : Span) → expr_span (expr.Group inner span) ≡ span
group-span inner span = rw expr.outs-Group refl

pub unary-span : (op : UnOp) (operand : Expr) (span : Span) → expr_span (expr.Unary op operand span) ≡ span
unary-span op operand span = rw expr.outs-Unary refl

pub reference-span : (mutable : Bool) (operand : Expr) (span : Span) → expr_span (expr.Reference mutable operand span) ≡ span
reference-span mutable operand span = rw expr.outs-Reference refl

pub binary-span : (left : Expr) (op : BinOp) (right : Expr) (span : Span) → expr_span (expr.Binary left op right span) ≡ span
binary-span left op right span = rw expr.outs-Binary refl

pub call-span : (func : Expr) (args : List Expr) (span : Span) → expr_span (expr.Call func args span) ≡ span
call-span func args span = rw expr.outs-Call refl

pub method_call-span : (receiver : Expr) (method : Ident) (turbofish : List GenericArgument) (args : List Expr) (span : Span) → expr_span (expr.MethodCall receiver method turbofish args span) ≡ span
method_call-span receiver method turbofish args span = rw expr.outs-MethodCall refl

pub field-span : (base : Expr) (member : Member) (span : Span) → expr_span (expr.Field base member span) ≡ span
field-span base member span = rw expr.outs-Field refl

pub index-span : (base at : Expr) (span : Span) → expr_span (expr.Index base at span) ≡ span
index-span base at span = rw expr.outs-Index refl

pub question-span : (inner : Expr) (span : Span) → expr_span (expr.Try inner span) ≡ span
question-span inner span = rw expr.outs-Try refl

pub range-span : (start end : Option Expr) (closed : Bool) (span : Span) → expr_span (make.expr_range start end closed span) ≡ span
range-span start end closed span = rw expr.outs-Range refl

pub closure-span : (trees : List TokenTree) (body : Expr) (span : Span) → expr_span (make.expr_closure trees body span) ≡ span
closure-span trees body span = rw expr.outs-Closure refl

pub block-span : (stmts : List Expr) (last : Option Expr) (span : Span) → expr_span (expr.Block stmts last span) ≡ span
block-span stmts last span = rw expr.outs-Block refl

pub infer-span : (span : Span) → expr_span (expr.Infer span) ≡ span
infer-span span = rw expr.outs-Infer refl

pub verbatim-span : (tokens : TokenStream) → expr_span (expr.Verbatim tokens) ≡ stream_span tokens
verbatim-span tokens = rw expr.outs-Verbatim refl
