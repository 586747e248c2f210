-- Of nested items.
use Rattle.std.proofs.Common.{refl, ap}
use Rattle.tok_types.specs.declared.span.Span.TheVariants.{CallSite}
use Rattle.error_core.specs.ErrorView.{ErrorView}
use Rattle.meta_nested.specs.contracts.nested.MetaNameValueInvalidExprPartialEq.TheImpl as bad_eq
use Rattle.meta_nested.specs.contracts.nested.NestedMetaPartialEq.TheImpl as nested_eq
use Rattle.meta_nested.specs.declared.nested.MetaNameValueInvalidExpr.{MetaNameValueInvalidExpr}
use Rattle.meta_nested.specs.declared.nested.NestedMeta.{NestedMeta}
use Rattle.meta_nested.specs.declared.nested.NestedMeta.TheVariants as nested
use Rattle.law_equality.proofs.Deciding.{Told, both, neither, told}
use Rattle.law_equality.proofs.Leaves.{lit_told}
use Rattle.law_equality.proofs.Nodes.{path_told}
use Rattle.law_equality.proofs.Tokens.{stream_told}
use Rattle.law_equality_items.proofs.Attributes.{meta_told}
use Rattle.law_nested.specs.ErasedErrors.{bad_with, nested_with}

module _ (error : ErrorView) where
  pub bad_told : (a : MetaNameValueInvalidExpr) → Told bad_eq.ghosts.eq (bad_with error) a
  bad_told a b =
      told refl (both (path_told a.path b.path) (stream_told a.value b.value))
      (λ p. λ i. record { path = p.0 i; eq_span = CallSite; value = p.1 i; error = error })
      (λ e. (ap (λ (it : MetaNameValueInvalidExpr). it.path) e, ap (λ (it : MetaNameValueInvalidExpr). it.value) e))

  pub nested_told : (a : NestedMeta) → Told nested_eq.ghosts.eq (nested_with error) a
  nested_told (nested.Meta it) (nested.Meta it') = told refl (meta_told it it') (λ p. λ i. nested.Meta (p i)) (λ e. cc)
  nested_told (nested.Lit it) (nested.Lit it') = told refl (lit_told it it') (λ p. λ i. nested.Lit (p i)) (λ e. cc)
  nested_told (nested.NameValueInvalidExpr it) (nested.NameValueInvalidExpr it') = told refl (bad_told it it') (λ p. λ i. nested.NameValueInvalidExpr (p i)) (λ e. cc)
  nested_told a b = neither refl (λ e. cc)
