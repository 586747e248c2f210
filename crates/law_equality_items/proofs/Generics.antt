-- Of parameters and of what is asked of them.
use Rattle.std.proofs.Common.{refl, ap}
use Rattle.tok_types.specs.declared.span.Span.TheVariants.{CallSite}
use Rattle.node_expr.specs.contracts.generics.TypeParamBoundPartialEq.TheImpl as bound_eq
use Rattle.node_expr.specs.contracts.ty.TypePartialEq.TheImpl as type_eq
use Rattle.node_expr.specs.contracts.expr.ExprPartialEq.TheImpl as expr_eq
use Rattle.node_core.specs.contracts.attr.AttributePartialEq.TheImpl as attribute_eq
use Rattle.node_core.specs.contracts.generics.LifetimeParamPartialEq.TheImpl as lifetime_param_eq
use Rattle.node_core.specs.contracts.generics.TypeParamPartialEq.TheImpl as type_param_eq
use Rattle.node_core.specs.contracts.generics.ConstParamPartialEq.TheImpl as const_param_eq
use Rattle.node_core.specs.contracts.generics.GenericParamPartialEq.TheImpl as generic_param_eq
use Rattle.node_core.specs.contracts.generics.WherePredicatePartialEq.TheImpl as predicate_eq
use Rattle.node_core.specs.contracts.generics.WhereClausePartialEq.TheImpl as where_clause_eq
use Rattle.node_core.specs.contracts.generics.GenericsPartialEq.TheImpl as generics_eq
use Rattle.node_core.specs.declared.generics.LifetimeParam.{LifetimeParam}
use Rattle.node_core.specs.declared.generics.TypeParam.{TypeParam}
use Rattle.node_core.specs.declared.generics.ConstParam.{ConstParam}
use Rattle.node_core.specs.declared.generics.GenericParam.{GenericParam}
use Rattle.node_core.specs.declared.generics.WherePredicate.{WherePredicate}
use Rattle.node_core.specs.declared.generics.WhereClause.{WhereClause}
use Rattle.node_core.specs.declared.generics.Generics.{Generics}
use Rattle.node_core.specs.declared.generics.GenericParam.TheVariants as params
use Rattle.node_core.specs.declared.generics.WherePredicate.TheVariants as predicates
use Rattle.law_spans.specs.Erased.{erased_bound, erased_expr, erased_type}
use Rattle.law_spans_items.specs.Erased.{erased_attribute, erased_const_param, erased_generic_param, erased_generics, erased_lifetime_param, erased_predicate, erased_type_param, erased_where}
use Rattle.law_equality_items.proofs.Attributes.{attribute_told}
use Rattle.law_equality.proofs.Deciding.{Told, both, list_told, neither, option_told, told}
use Rattle.law_equality.proofs.Leaves.{ident_told, lifetime_told, lifetimes_told}
use Rattle.law_equality.proofs.Nodes.{bound_told, expr_told, type_told}

pub lifetime_param_told : (a : LifetimeParam) → Told lifetime_param_eq.ghosts.eq erased_lifetime_param a
lifetime_param_told a b =
    told refl (both (list_told attribute_eq.ghosts.eq erased_attribute attribute_told a.attrs b.attrs) (both (lifetime_told a.lifetime b.lifetime) (lifetimes_told a.bounds b.bounds)))
    (λ p. λ i. record { attrs = p.0 i; lifetime = p.1.0 i; bounds = p.1.1 i; span = CallSite }) (λ e. (ap (λ (it : LifetimeParam). it.attrs) e, (ap (λ (it : LifetimeParam). it.lifetime) e, ap (λ (it : LifetimeParam). it.bounds) e)))

pub type_param_told : (a : TypeParam) → Told type_param_eq.ghosts.eq erased_type_param a
type_param_told a b =
    told refl (both (list_told attribute_eq.ghosts.eq erased_attribute attribute_told a.attrs b.attrs) (both (ident_told a.ident b.ident) (both (list_told bound_eq.ghosts.eq erased_bound bound_told a.bounds b.bounds) (option_told type_eq.ghosts.eq erased_type type_told a.default b.default))))
    (λ p. λ i. record { attrs = p.0 i; ident = p.1.0 i; bounds = p.1.1.0 i; default = p.1.1.1 i; span = CallSite }) (λ e. (ap (λ (it : TypeParam). it.attrs) e, (ap (λ (it : TypeParam). it.ident) e, (ap (λ (it : TypeParam). it.bounds) e, ap (λ (it : TypeParam). it.default) e))))

pub const_param_told : (a : ConstParam) → Told const_param_eq.ghosts.eq erased_const_param a
const_param_told a b =
    told refl (both (list_told attribute_eq.ghosts.eq erased_attribute attribute_told a.attrs b.attrs) (both (ident_told a.ident b.ident) (both (type_told a.ty b.ty) (option_told expr_eq.ghosts.eq erased_expr expr_told a.default b.default))))
    (λ p. λ i. record { attrs = p.0 i; ident = p.1.0 i; ty = p.1.1.0 i; default = p.1.1.1 i; span = CallSite }) (λ e. (ap (λ (it : ConstParam). it.attrs) e, (ap (λ (it : ConstParam). it.ident) e, (ap (λ (it : ConstParam). it.ty) e, ap (λ (it : ConstParam). it.default) e))))

pub generic_param_told : (a : GenericParam) → Told generic_param_eq.ghosts.eq erased_generic_param a
generic_param_told (params.Lifetime it) (params.Lifetime it') = told refl (lifetime_param_told it it') (λ p. λ i. params.Lifetime (p i)) (λ e. cc)
generic_param_told (params.Ty it) (params.Ty it') = told refl (type_param_told it it') (λ p. λ i. params.Ty (p i)) (λ e. cc)
generic_param_told (params.Const it) (params.Const it') = told refl (const_param_told it it') (λ p. λ i. params.Const (p i)) (λ e. cc)
generic_param_told a b = neither refl (λ e. cc)

pub predicate_told : (a : WherePredicate) → Told predicate_eq.ghosts.eq erased_predicate a
predicate_told (predicates.Lifetime lifetime bounds span) (predicates.Lifetime lifetime' bounds' span') = told refl (both (lifetime_told lifetime lifetime') (lifetimes_told bounds bounds')) (λ p. λ i. predicates.Lifetime (p.0 i) (p.1 i) CallSite) (λ e. (cc, cc))
predicate_told (predicates.Ty lifetimes bounded bounds span) (predicates.Ty lifetimes' bounded' bounds' span') = told refl (both (lifetimes_told lifetimes lifetimes') (both (type_told bounded bounded') (list_told bound_eq.ghosts.eq erased_bound bound_told bounds bounds'))) (λ p. λ i. predicates.Ty (p.0 i) (p.1.0 i) (p.1.1 i) CallSite) (λ e. (cc, (cc, cc)))
predicate_told a b = neither refl (λ e. cc)

pub where_clause_told : (a : WhereClause) → Told where_clause_eq.ghosts.eq erased_where a
where_clause_told a b =
    told refl (list_told predicate_eq.ghosts.eq erased_predicate predicate_told a.predicates b.predicates)
    (λ p. λ i. record { predicates = p i; span = CallSite }) (λ e. ap (λ (it : WhereClause). it.predicates) e)

pub generics_told : (a : Generics) → Told generics_eq.ghosts.eq erased_generics a
generics_told a b =
    told refl (both (list_told generic_param_eq.ghosts.eq erased_generic_param generic_param_told a.params b.params) (option_told where_clause_eq.ghosts.eq erased_where where_clause_told a.where_clause b.where_clause))
    (λ p. λ i. record { params = p.0 i; where_clause = p.1 i; span = CallSite }) (λ e. (ap (λ (it : Generics). it.params) e, ap (λ (it : Generics). it.where_clause) e))
