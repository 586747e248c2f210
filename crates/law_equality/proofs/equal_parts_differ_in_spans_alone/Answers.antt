use Rattle.std.proofs.Common.{refl, ap}
use Rattle.tok_types.specs.declared.span.Span.TheVariants.{CallSite}
use Rattle.node_expr.specs.contracts.expr.ExprPartialEq.TheImpl as expr_eq
use Rattle.node_expr.specs.contracts.generics.TypeParamBoundPartialEq.TheImpl as bound_eq
use Rattle.node_expr.specs.contracts.ty.TypePartialEq.TheImpl as type_eq
use Rattle.node_expr.specs.declared.expr.Expr.{Expr}
use Rattle.node_expr.specs.declared.expr.ExprArray.{ExprArray}
use Rattle.node_expr.specs.declared.expr.ExprClosure.{ExprClosure}
use Rattle.node_expr.specs.declared.expr.ExprRange.{ExprRange}
use Rattle.node_expr.specs.declared.generics.TypeParamBound.{TypeParamBound}
use Rattle.node_expr.specs.declared.path.QSelf.{QSelf}
use Rattle.node_expr.specs.declared.ty.FnArg.{FnArg}
use Rattle.node_expr.specs.declared.ty.«Type».{«Type» as Type'}
use Rattle.node_expr.specs.declared.ty.TypeFnPtr.{TypeFnPtr}
use Rattle.node_expr.specs.declared.ty.TypeGroup.{TypeGroup}
use Rattle.node_expr.specs.declared.ty.TypeImplTrait.{TypeImplTrait}
use Rattle.node_expr.specs.declared.ty.TypeParen.{TypeParen}
use Rattle.node_expr.specs.declared.ty.TypePtr.{TypePtr}
use Rattle.node_expr.specs.declared.ty.TypeReference.{TypeReference}
use Rattle.node_expr.specs.declared.ty.TypeSlice.{TypeSlice}
use Rattle.node_expr.specs.declared.ty.TypeTraitObject.{TypeTraitObject}
use Rattle.node_expr.specs.declared.ty.TypeTuple.{TypeTuple}
use Rattle.law_spans.specs.Erased.{erased_bound, erased_expr, erased_named_arg, erased_type}
use Rattle.law_equality.proofs.Parts.{named_arg_eq, named_arg_told, output_told}
use Rattle.law_equality.proofs.Leaves.{bool_told, lifetimes_told, option_lifetime_told, position_told}
use Rattle.law_equality.proofs.Nodes.{bound_told, expr_told, type_told}
use Rattle.law_equality.proofs.Deciding.{both, list_told, option_told, told}
use Rattle.law_equality.proofs.Tokens.{stream_told}
use Rattle.law_equality.proofs.equal_parts_differ_in_spans_alone.Goals as goal

pub returns-clause-expr_array : goal.returns-clause-expr_array
returns-clause-expr_array c = record {
  at = λ a b.
      told refl (list_told expr_eq.ghosts.eq erased_expr expr_told a.elems b.elems) (λ p. λ i. record { elems = p i; span = CallSite }) (λ e. ap (λ (it : ExprArray Expr). it.elems) e);
}

pub returns-clause-expr_range : goal.returns-clause-expr_range
returns-clause-expr_range c = record {
  at = λ a b.
      told refl (both (option_told expr_eq.ghosts.eq erased_expr expr_told a.start b.start) (both (option_told expr_eq.ghosts.eq erased_expr expr_told a.end b.end) (bool_told a.closed b.closed))) (λ p. λ i. record { start = p.0 i; end = p.1.0 i; closed = p.1.1 i; span = CallSite }) (λ e. (ap (λ (it : ExprRange Expr). it.start) e, (ap (λ (it : ExprRange Expr). it.end) e, ap (λ (it : ExprRange Expr). it.closed) e)));
}

pub returns-clause-expr_closure : goal.returns-clause-expr_closure
returns-clause-expr_closure c = record {
  at = λ a b.
      told refl (both (stream_told a.tokens b.tokens) (expr_told a.body b.body)) (λ p. λ i. record { tokens = p.0 i; body = p.1 i; span = CallSite }) (λ e. (ap (λ (it : ExprClosure Expr). it.tokens) e, ap (λ (it : ExprClosure Expr). it.body) e));
}

pub returns-clause-qself : goal.returns-clause-qself
returns-clause-qself c = record {
  at = λ a b.
      told refl (both (type_told a.ty b.ty) (position_told a.position b.position)) (λ p. λ i. record { ty = p.0 i; position = p.1 i; span = CallSite }) (λ e. (ap (λ (it : QSelf Type'). it.ty) e, ap (λ (it : QSelf Type'). it.position) e));
}

pub returns-clause-type_reference : goal.returns-clause-type_reference
returns-clause-type_reference c = record {
  at = λ a b.
      told refl (both (option_lifetime_told a.lifetime b.lifetime) (both (bool_told a.mutable b.mutable) (type_told a.elem b.elem))) (λ p. λ i. record { lifetime = p.0 i; mutable = p.1.0 i; elem = p.1.1 i; span = CallSite }) (λ e. (ap (λ (it : TypeReference Type'). it.lifetime) e, (ap (λ (it : TypeReference Type'). it.mutable) e, ap (λ (it : TypeReference Type'). it.elem) e)));
}

pub returns-clause-type_ptr : goal.returns-clause-type_ptr
returns-clause-type_ptr c = record {
  at = λ a b.
      told refl (both (bool_told a.mutable b.mutable) (type_told a.elem b.elem)) (λ p. λ i. record { mutable = p.0 i; elem = p.1 i; span = CallSite }) (λ e. (ap (λ (it : TypePtr Type'). it.mutable) e, ap (λ (it : TypePtr Type'). it.elem) e));
}

pub returns-clause-type_slice : goal.returns-clause-type_slice
returns-clause-type_slice c = record {
  at = λ a b.
      told refl (type_told a.elem b.elem) (λ p. λ i. record { elem = p i; span = CallSite }) (λ e. ap (λ (it : TypeSlice Type'). it.elem) e);
}

pub returns-clause-type_tuple : goal.returns-clause-type_tuple
returns-clause-type_tuple c = record {
  at = λ a b.
      told refl (list_told type_eq.ghosts.eq erased_type type_told a.elems b.elems) (λ p. λ i. record { elems = p i; span = CallSite }) (λ e. ap (λ (it : TypeTuple Type'). it.elems) e);
}

pub returns-clause-type_paren : goal.returns-clause-type_paren
returns-clause-type_paren c = record {
  at = λ a b.
      told refl (type_told a.elem b.elem) (λ p. λ i. record { elem = p i; span = CallSite }) (λ e. ap (λ (it : TypeParen Type'). it.elem) e);
}

pub returns-clause-type_group : goal.returns-clause-type_group
returns-clause-type_group c = record {
  at = λ a b.
      told refl (type_told a.elem b.elem) (λ p. λ i. record { elem = p i; span = CallSite }) (λ e. ap (λ (it : TypeGroup Type'). it.elem) e);
}

pub returns-clause-type_fn_ptr : goal.returns-clause-type_fn_ptr
returns-clause-type_fn_ptr c = record {
  at = λ a b.
      told refl (both (lifetimes_told a.lifetimes b.lifetimes) (both (list_told named_arg_eq erased_named_arg named_arg_told a.inputs b.inputs) (output_told a.output b.output))) (λ p. λ i. record { lifetimes = p.0 i; inputs = p.1.0 i; output = p.1.1 i; span = CallSite }) (λ e. (ap (λ (it : TypeFnPtr Type'). it.lifetimes) e, (ap (λ (it : TypeFnPtr Type'). it.inputs) e, ap (λ (it : TypeFnPtr Type'). it.output) e)));
}

pub returns-clause-type_trait_object : goal.returns-clause-type_trait_object
returns-clause-type_trait_object c = record {
  at = λ a b.
      told refl (list_told bound_eq.ghosts.eq erased_bound bound_told a.bounds b.bounds) (λ p. λ i. record { bounds = p i; span = CallSite }) (λ e. ap (λ (it : TypeTraitObject TypeParamBound). it.bounds) e);
}

pub returns-clause-type_impl_trait : goal.returns-clause-type_impl_trait
returns-clause-type_impl_trait c = record {
  at = λ a b.
      told refl (list_told bound_eq.ghosts.eq erased_bound bound_told a.bounds b.bounds) (λ p. λ i. record { bounds = p i; span = CallSite }) (λ e. ap (λ (it : TypeImplTrait TypeParamBound). it.bounds) e);
}

pub returns-clause-fn_arg : goal.returns-clause-fn_arg
returns-clause-fn_arg c = record {
  at = λ a b.
      told refl (both (stream_told a.pat b.pat) (type_told a.ty b.ty)) (λ p. λ i. record { pat = p.0 i; ty = p.1 i; span = CallSite }) (λ e. (ap (λ (it : FnArg). it.pat) e, ap (λ (it : FnArg). it.ty) e));
}

pub returns-clause-named_arg : goal.returns-clause-named_arg
returns-clause-named_arg c = record { at = named_arg_told }

pub returns-clause-return_type : goal.returns-clause-return_type
returns-clause-return_type c = record { at = output_told }
