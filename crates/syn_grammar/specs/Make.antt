-- Nodes from their parts.
use Rattle.std.specs.Prelude.{ℕ, Bool, List, Option}
use Rattle.tok_types.specs.declared.ident.Ident.{Ident}
use Rattle.tok_types.specs.declared.ident.Lifetime.{Lifetime}
use Rattle.tok_types.specs.declared.span.Span.{Span}
use Rattle.tok_types.specs.declared.tree.TokenTree.{TokenTree}
use Rattle.tok_types.specs.declared.tree.TokenStream.{roll-TokenStream}
use Rattle.node_expr.specs.declared.expr.Expr.{Expr}
use Rattle.node_expr.specs.declared.expr.Expr.TheVariants as expr
use Rattle.node_expr.specs.declared.expr.ExprPath.{roll-ExprPath}
use Rattle.node_expr.specs.declared.generics.TraitBound.{roll-TraitBound}
use Rattle.node_expr.specs.declared.generics.TypeParamBound.{TypeParamBound}
use Rattle.node_expr.specs.declared.generics.TypeParamBound.TheVariants as bound
use Rattle.node_expr.specs.declared.path.Path.{Path, roll-Path}
use Rattle.node_expr.specs.declared.path.PathArguments.{PathArguments}
use Rattle.node_expr.specs.declared.path.PathSegment.{PathSegment, roll-PathSegment}
use Rattle.node_expr.specs.declared.path.QSelf.{QSelf}
use Rattle.node_expr.specs.declared.ty.«Type».{«Type» as Ty}
use Rattle.node_expr.specs.declared.ty.«Type».TheVariants as ty
use Rattle.node_expr.specs.declared.ty.NamedArg.{NamedArg}
use Rattle.node_expr.specs.declared.ty.ReturnType.{ReturnType}
use Rattle.node_expr.specs.declared.ty.TypeArray.{roll-TypeArray}
use Rattle.node_expr.specs.declared.ty.TypePath.{roll-TypePath}

-- ---- paths

abbrev pub segment : Ident → PathArguments → Span → PathSegment
segment ident arguments span = roll-PathSegment (record { ident = ident; arguments = arguments; span = span })

abbrev pub path : Bool → List PathSegment → Span → Path
path leading_colon segments span = roll-Path (record { leading_colon = leading_colon; segments = segments; span = span })

abbrev pub qself : Ty → ℕ → Span → QSelf Ty
qself ty position span = record { ty = ty; position = position; span = span }

abbrev pub trait_bound : Bool → List Lifetime → Path → Span → TypeParamBound
trait_bound maybe lifetimes path span = bound.Trait (roll-TraitBound (record { maybe = maybe; lifetimes = lifetimes; path = path; span = span }))

-- ---- types

abbrev pub type_path : Option (QSelf Ty) → Path → Span → Ty
type_path qself path span = ty.Path (roll-TypePath (record { qself = qself; path = path; span = span }))

abbrev pub type_reference : Option Lifetime → Bool → Ty → Span → Ty
type_reference lifetime mutable elem span = ty.Reference (record { lifetime = lifetime; mutable = mutable; elem = elem; span = span })

abbrev pub type_ptr : Bool → Ty → Span → Ty
type_ptr mutable elem span = ty.Ptr (record { mutable = mutable; elem = elem; span = span })

abbrev pub type_slice : Ty → Span → Ty
type_slice elem span = ty.Slice (record { elem = elem; span = span })

abbrev pub type_array : Ty → Expr → Span → Ty
type_array elem len span = ty.Array (roll-TypeArray (record { elem = elem; len = len; span = span }))

abbrev pub type_tuple : List Ty → Span → Ty
type_tuple elems span = ty.Tuple (record { elems = elems; span = span })

abbrev pub type_paren : Ty → Span → Ty
type_paren elem span = ty.Paren (record { elem = elem; span = span })

abbrev pub named_arg : Option Ident → Ty → Span → NamedArg Ty
named_arg name ty span = record { name = name; ty = ty; span = span }

abbrev pub type_fn_ptr : List Lifetime → List (NamedArg Ty) → ReturnType Ty → Span → Ty
type_fn_ptr lifetimes inputs output span = ty.FnPtr (record { lifetimes = lifetimes; inputs = inputs; output = output; span = span })

abbrev pub type_trait_object : List TypeParamBound → Span → Ty
type_trait_object bounds span = ty.TraitObject (record { bounds = bounds; span = span })

abbrev pub type_impl_trait : List TypeParamBound → Span → Ty
type_impl_trait bounds span = ty.ImplTrait (record { bounds = bounds; span = span })

abbrev pub type_never : Span → Ty
type_never span = ty.Never (record { span = span })

abbrev pub type_infer : Span → Ty
type_infer span = ty.Infer (record { span = span })

-- ---- expressions

abbrev pub expr_path : Option (QSelf Ty) → Path → Span → Expr
expr_path qself path span = expr.Path (roll-ExprPath (record { qself = qself; path = path; span = span }))

abbrev pub expr_array : List Expr → Span → Expr
expr_array elems span = expr.Array (record { elems = elems; span = span })

abbrev pub expr_range : Option Expr → Option Expr → Bool → Span → Expr
expr_range start end closed span = expr.Range (record { start = start; end = end; closed = closed; span = span })

abbrev pub expr_closure : List TokenTree → Expr → Span → Expr
expr_closure trees body span = expr.Closure (record { tokens = roll-TokenStream (record { trees = trees }); body = body; span = span })
