-- Of fields, variants and items.
use Rattle.std.proofs.Common.{refl, ap}
use Rattle.tok_types.specs.declared.span.Span.TheVariants.{CallSite}
use Rattle.node_expr.specs.contracts.expr.ExprPartialEq.TheImpl as expr_eq
use Rattle.node_core.specs.contracts.attr.AttributePartialEq.TheImpl as attribute_eq
use Rattle.node_core.specs.contracts.data.VisibilityPartialEq.TheImpl as visibility_eq
use Rattle.node_core.specs.contracts.data.FieldPartialEq.TheImpl as field_eq
use Rattle.node_core.specs.contracts.data.FieldsPartialEq.TheImpl as fields_eq
use Rattle.node_core.specs.contracts.data.FieldsNamedPartialEq.TheImpl as fields_named_eq
use Rattle.node_core.specs.contracts.data.FieldsUnnamedPartialEq.TheImpl as fields_unnamed_eq
use Rattle.node_core.specs.contracts.data.VariantPartialEq.TheImpl as variant_eq
use Rattle.node_core.specs.contracts.data.DataPartialEq.TheImpl as body_eq
use Rattle.node_core.specs.contracts.data.DataStructPartialEq.TheImpl as data_struct_eq
use Rattle.node_core.specs.contracts.data.DataEnumPartialEq.TheImpl as data_enum_eq
use Rattle.node_core.specs.contracts.data.DataUnionPartialEq.TheImpl as data_union_eq
use Rattle.node_core.specs.contracts.derive.DeriveInputPartialEq.TheImpl as derive_input_eq
use Rattle.node_core.specs.declared.data.Visibility.{Visibility}
use Rattle.node_core.specs.declared.data.Field.{Field}
use Rattle.node_core.specs.declared.data.Fields.{Fields}
use Rattle.node_core.specs.declared.data.FieldsNamed.{FieldsNamed}
use Rattle.node_core.specs.declared.data.FieldsUnnamed.{FieldsUnnamed}
use Rattle.node_core.specs.declared.data.Variant.{Variant}
use Rattle.node_core.specs.declared.data.«Data».{«Data» as Data'}
use Rattle.node_core.specs.declared.data.DataStruct.{DataStruct}
use Rattle.node_core.specs.declared.data.DataEnum.{DataEnum}
use Rattle.node_core.specs.declared.data.DataUnion.{DataUnion}
use Rattle.node_core.specs.declared.derive.DeriveInput.{DeriveInput}
use Rattle.node_core.specs.declared.data.Visibility.TheVariants as visibilities
use Rattle.node_core.specs.declared.data.Fields.TheVariants as fieldses
use Rattle.node_core.specs.declared.data.«Data».TheVariants as bodies
use Rattle.law_spans.specs.Erased.{erased_expr}
use Rattle.law_spans_items.specs.Erased.{erased_attribute, erased_data, erased_derive_input, erased_field, erased_fields, erased_fields_named, erased_fields_unnamed, erased_variant, erased_visibility}
use Rattle.law_equality_items.specs.Erased.{erased_data_struct, erased_data_enum, erased_data_union}
use Rattle.law_equality_items.proofs.Attributes.{attribute_told}
use Rattle.law_equality_items.proofs.Generics.{generics_told}
use Rattle.law_equality.proofs.Deciding.{Told, both, list_told, neither, option_told, told}
use Rattle.law_equality.proofs.Leaves.{bool_told, ident_told, option_ident_told}
use Rattle.law_equality.proofs.Nodes.{expr_told, path_told, type_told}

pub visibility_told : (a : Visibility) → Told visibility_eq.ghosts.eq erased_visibility a
visibility_told visibilities.Inherited visibilities.Inherited = (λ h. refl, λ e. refl)
visibility_told (visibilities.Public span) (visibilities.Public span') = (λ h. refl, λ e. refl)
visibility_told (visibilities.Restricted in_token path span) (visibilities.Restricted in_token' path' span') = told refl (both (bool_told in_token in_token') (path_told path path')) (λ p. λ i. visibilities.Restricted (p.0 i) (p.1 i) CallSite) (λ e. (cc, cc))
visibility_told a b = neither refl (λ e. cc)

pub field_told : (a : Field) → Told field_eq.ghosts.eq erased_field a
field_told a b =
    told refl (both (list_told attribute_eq.ghosts.eq erased_attribute attribute_told a.attrs b.attrs) (both (visibility_told a.vis b.vis) (both (option_ident_told a.ident b.ident) (type_told a.ty b.ty))))
    (λ p. λ i. record { attrs = p.0 i; vis = p.1.0 i; ident = p.1.1.0 i; ty = p.1.1.1 i; span = CallSite }) (λ e. (ap (λ (it : Field). it.attrs) e, (ap (λ (it : Field). it.vis) e, (ap (λ (it : Field). it.ident) e, ap (λ (it : Field). it.ty) e))))

pub fields_named_told : (a : FieldsNamed) → Told fields_named_eq.ghosts.eq erased_fields_named a
fields_named_told a b =
    told refl (list_told field_eq.ghosts.eq erased_field field_told a.named b.named)
    (λ p. λ i. record { named = p i; span = CallSite }) (λ e. ap (λ (it : FieldsNamed). it.named) e)

pub fields_unnamed_told : (a : FieldsUnnamed) → Told fields_unnamed_eq.ghosts.eq erased_fields_unnamed a
fields_unnamed_told a b =
    told refl (list_told field_eq.ghosts.eq erased_field field_told a.unnamed b.unnamed)
    (λ p. λ i. record { unnamed = p i; span = CallSite }) (λ e. ap (λ (it : FieldsUnnamed). it.unnamed) e)

pub fields_told : (a : Fields) → Told fields_eq.ghosts.eq erased_fields a
fields_told (fieldses.Named it) (fieldses.Named it') = told refl (fields_named_told it it') (λ p. λ i. fieldses.Named (p i)) (λ e. cc)
fields_told (fieldses.Unnamed it) (fieldses.Unnamed it') = told refl (fields_unnamed_told it it') (λ p. λ i. fieldses.Unnamed (p i)) (λ e. cc)
fields_told fieldses.Unit fieldses.Unit = (λ h. refl, λ e. refl)
fields_told a b = neither refl (λ e. cc)

pub variant_told : (a : Variant) → Told variant_eq.ghosts.eq erased_variant a
variant_told a b =
    told refl (both (list_told attribute_eq.ghosts.eq erased_attribute attribute_told a.attrs b.attrs) (both (ident_told a.ident b.ident) (both (fields_told a.fields b.fields) (option_told expr_eq.ghosts.eq erased_expr expr_told a.discriminant b.discriminant))))
    (λ p. λ i. record { attrs = p.0 i; ident = p.1.0 i; fields = p.1.1.0 i; discriminant = p.1.1.1 i; span = CallSite }) (λ e. (ap (λ (it : Variant). it.attrs) e, (ap (λ (it : Variant). it.ident) e, (ap (λ (it : Variant). it.fields) e, ap (λ (it : Variant). it.discriminant) e))))

pub data_struct_told : (a : DataStruct) → Told data_struct_eq.ghosts.eq erased_data_struct a
data_struct_told a b =
    told refl (fields_told a.fields b.fields)
    (λ p. λ i. record { fields = p i; span = CallSite }) (λ e. ap (λ (it : DataStruct). it.fields) e)

pub data_enum_told : (a : DataEnum) → Told data_enum_eq.ghosts.eq erased_data_enum a
data_enum_told a b =
    told refl (list_told variant_eq.ghosts.eq erased_variant variant_told a.variants b.variants)
    (λ p. λ i. record { variants = p i; span = CallSite }) (λ e. ap (λ (it : DataEnum). it.variants) e)

pub data_union_told : (a : DataUnion) → Told data_union_eq.ghosts.eq erased_data_union a
data_union_told a b =
    told refl (fields_named_told a.fields b.fields)
    (λ p. λ i. record { fields = p i; span = CallSite }) (λ e. ap (λ (it : DataUnion). it.fields) e)

pub body_told : (a : Data') → Told body_eq.ghosts.eq erased_data a
body_told (bodies.Struct it) (bodies.Struct it') = told refl (data_struct_told it it') (λ p. λ i. bodies.Struct (p i)) (λ e. cc)
body_told (bodies.Enum it) (bodies.Enum it') = told refl (data_enum_told it it') (λ p. λ i. bodies.Enum (p i)) (λ e. cc)
body_told (bodies.Union it) (bodies.Union it') = told refl (data_union_told it it') (λ p. λ i. bodies.Union (p i)) (λ e. cc)
body_told a b = neither refl (λ e. cc)

pub derive_input_told : (a : DeriveInput) → Told derive_input_eq.ghosts.eq erased_derive_input a
derive_input_told a b =
    told refl (both (list_told attribute_eq.ghosts.eq erased_attribute attribute_told a.attrs b.attrs) (both (visibility_told a.vis b.vis) (both (ident_told a.ident b.ident) (both (generics_told a.generics b.generics) (body_told a.body b.body)))))
    (λ p. λ i. record { attrs = p.0 i; vis = p.1.0 i; ident = p.1.1.0 i; generics = p.1.1.1.0 i; body = p.1.1.1.1 i; span = CallSite }) (λ e. (ap (λ (it : DeriveInput). it.attrs) e, (ap (λ (it : DeriveInput). it.vis) e, (ap (λ (it : DeriveInput). it.ident) e, (ap (λ (it : DeriveInput). it.generics) e, ap (λ (it : DeriveInput). it.body) e)))))
