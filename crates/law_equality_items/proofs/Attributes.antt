-- Of attributes.
use Rattle.std.proofs.Common.{refl, ap}
use Rattle.tok_types.specs.declared.span.Span.TheVariants.{CallSite}
use Rattle.node_core.specs.contracts.attr.AttributePartialEq.TheImpl as attribute_eq
use Rattle.node_core.specs.contracts.attr.MetaPartialEq.TheImpl as meta_eq
use Rattle.node_core.specs.contracts.attr.MetaListPartialEq.TheImpl as meta_list_eq
use Rattle.node_core.specs.contracts.attr.MetaNameValuePartialEq.TheImpl as name_value_eq
use Rattle.node_core.specs.declared.attr.Attribute.{Attribute}
use Rattle.node_core.specs.declared.attr.Meta.{Meta}
use Rattle.node_core.specs.declared.attr.MetaList.{MetaList}
use Rattle.node_core.specs.declared.attr.MetaNameValue.{MetaNameValue}
use Rattle.node_core.specs.declared.attr.Meta.TheVariants as metas
use Rattle.law_spans_items.specs.Erased.{erased_attribute, erased_meta, erased_meta_list, erased_name_value}
use Rattle.law_equality.proofs.Deciding.{Told, both, neither, told}
use Rattle.law_equality.proofs.Leaves.{delimiter_told}
use Rattle.law_equality.proofs.Nodes.{expr_told, path_told}
use Rattle.law_equality.proofs.Tokens.{stream_told}

pub meta_list_told : (a : MetaList) → Told meta_list_eq.ghosts.eq erased_meta_list a
meta_list_told a b =
    told refl (both (path_told a.path b.path) (both (delimiter_told a.delimiter b.delimiter) (stream_told a.tokens b.tokens)))
    (λ p. λ i. record { path = p.0 i; delimiter = p.1.0 i; tokens = p.1.1 i; span = CallSite }) (λ e. (ap (λ (it : MetaList). it.path) e, (ap (λ (it : MetaList). it.delimiter) e, ap (λ (it : MetaList). it.tokens) e)))

pub name_value_told : (a : MetaNameValue) → Told name_value_eq.ghosts.eq erased_name_value a
name_value_told a b =
    told refl (both (path_told a.path b.path) (expr_told a.value b.value))
    (λ p. λ i. record { path = p.0 i; eq_span = CallSite; value = p.1 i; span = CallSite }) (λ e. (ap (λ (it : MetaNameValue). it.path) e, ap (λ (it : MetaNameValue). it.value) e))

pub meta_told : (a : Meta) → Told meta_eq.ghosts.eq erased_meta a
meta_told (metas.Path it) (metas.Path it') = told refl (path_told it it') (λ p. λ i. metas.Path (p i)) (λ e. cc)
meta_told (metas.List it) (metas.List it') = told refl (meta_list_told it it') (λ p. λ i. metas.List (p i)) (λ e. cc)
meta_told (metas.NameValue it) (metas.NameValue it') = told refl (name_value_told it it') (λ p. λ i. metas.NameValue (p i)) (λ e. cc)
meta_told a b = neither refl (λ e. cc)

pub attribute_told : (a : Attribute) → Told attribute_eq.ghosts.eq erased_attribute a
attribute_told a b =
    told refl (meta_told a.meta b.meta)
    (λ p. λ i. record { meta = p i; span = CallSite }) (λ e. ap (λ (it : Attribute). it.meta) e)
