-- The nodes that lead to one other kind of node: each rule of types and expressions at the nodes themselves.
use Rattle.std.specs.Prelude.{List, map, Option, Some, None}
use Rattle.std.specs.Option.{option_map}
use Rattle.tok_types.specs.declared.span.Span.TheVariants.{CallSite}
use Rattle.node_expr.specs.declared.expr.Expr.{Expr}
use Rattle.node_expr.specs.declared.expr.ExprArray.{ExprArray}
use Rattle.node_expr.specs.declared.expr.ExprRange.{ExprRange}
use Rattle.node_expr.specs.declared.expr.ExprClosure.{ExprClosure}
use Rattle.node_expr.specs.declared.generics.TypeParamBound.{TypeParamBound}
use Rattle.node_expr.specs.declared.ty.«Type».{«Type» as Type'}
use Rattle.node_expr.specs.declared.ty.NamedArg.{NamedArg}
use Rattle.node_expr.specs.declared.ty.ReturnType.{ReturnType}
use Rattle.node_expr.specs.declared.ty.ReturnType.TheVariants.{Default, Ty}
use Rattle.node_expr.specs.declared.ty.TypeReference.{TypeReference}
use Rattle.node_expr.specs.declared.ty.TypePtr.{TypePtr}
use Rattle.node_expr.specs.declared.ty.TypeSlice.{TypeSlice}
use Rattle.node_expr.specs.declared.ty.TypeTuple.{TypeTuple}
use Rattle.node_expr.specs.declared.ty.TypeParen.{TypeParen}
use Rattle.node_expr.specs.declared.ty.TypeGroup.{TypeGroup}
use Rattle.node_expr.specs.declared.ty.TypeFnPtr.{TypeFnPtr}
use Rattle.node_expr.specs.declared.ty.TypeTraitObject.{TypeTraitObject}
use Rattle.node_expr.specs.declared.ty.TypeImplTrait.{TypeImplTrait}
use Rattle.print_core.specs.Marks.{Trees}
use Rattle.print_core.specs.Paths.{return_of}
use Rattle.print_core.specs.Types.{reference_rule, ptr_rule, slice_rule, type_tuple_rule, type_paren_rule, type_group_rule, named_arg_rule, fn_ptr_rule, trait_object_rule, impl_trait_rule}
use Rattle.print_core.specs.Exprs.{array_rule, range_rule, closure_rule}
use Rattle.print_core.specs.Nodes.{expr_tokens, bound_tokens, type_tokens}

abbrev pub reference_tokens : TypeReference Type' → Trees
reference_tokens it =
    reference_rule (record { lifetime = it.lifetime; mutable = it.mutable; elem = type_tokens it.elem; span = it.span })

abbrev pub ptr_tokens : TypePtr Type' → Trees
ptr_tokens it = ptr_rule (record { mutable = it.mutable; elem = type_tokens it.elem; span = it.span })

abbrev pub slice_tokens : TypeSlice Type' → Trees
slice_tokens it = slice_rule (record { elem = type_tokens it.elem; span = it.span })

abbrev pub type_tuple_tokens : TypeTuple Type' → Trees
type_tuple_tokens it = type_tuple_rule (record { elems = map type_tokens it.elems; span = it.span })

abbrev pub type_paren_tokens : TypeParen Type' → Trees
type_paren_tokens it = type_paren_rule (record { elem = type_tokens it.elem; span = it.span })

abbrev pub type_group_tokens : TypeGroup Type' → Trees
type_group_tokens it = type_group_rule (record { elem = type_tokens it.elem; span = it.span })

-- an argument, with what its type prints
abbrev pub printed_arg : NamedArg Type' → NamedArg Trees
printed_arg it = record { name = it.name; ty = type_tokens it.ty; span = it.span }

abbrev pub named_arg_tokens : NamedArg Type' → Trees
named_arg_tokens it = named_arg_rule (printed_arg it)

-- a return type, with what its type prints
abbrev pub printed_return : ReturnType Type' → ReturnType Trees
printed_return Default = Default
printed_return (Ty ty) = Ty (type_tokens ty)

-- alone, with no node around it that keeps a span
abbrev pub return_tokens : ReturnType Type' → Trees
return_tokens it = return_of (printed_return it) CallSite

abbrev pub fn_ptr_tokens : TypeFnPtr Type' → Trees
fn_ptr_tokens it = fn_ptr_rule (record {
  lifetimes = it.lifetimes;
  inputs = map printed_arg it.inputs;
  output = printed_return it.output;
  span = it.span;
})

abbrev pub trait_object_tokens : TypeTraitObject TypeParamBound → Trees
trait_object_tokens it = trait_object_rule (record { bounds = map bound_tokens it.bounds; span = it.span })

abbrev pub impl_trait_tokens : TypeImplTrait TypeParamBound → Trees
impl_trait_tokens it = impl_trait_rule (record { bounds = map bound_tokens it.bounds; span = it.span })

abbrev pub array_tokens : ExprArray Expr → Trees
array_tokens it = array_rule (record { elems = map expr_tokens it.elems; span = it.span })

abbrev pub range_tokens : ExprRange Expr → Trees
range_tokens it = range_rule (record {
  start = option_map expr_tokens it.start;
  end = option_map expr_tokens it.end;
  closed = it.closed;
  span = it.span;
})

abbrev pub closure_tokens : ExprClosure Expr → Trees
closure_tokens it = closure_rule (record { tokens = it.tokens; body = expr_tokens it.body; span = it.span })
