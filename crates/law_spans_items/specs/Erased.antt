-- Items and their parts with their spans erased: the same node, with every span at the call site.
use Rattle.std.specs.Prelude.{map, option_map}
use Rattle.tok_types.specs.declared.span.Span.TheVariants.{CallSite}
use Rattle.node_core.specs.declared.attr.Attribute.{Attribute}
use Rattle.node_core.specs.declared.attr.Meta.{Meta}
use Rattle.node_core.specs.declared.attr.Meta.TheVariants as meta
use Rattle.node_core.specs.declared.attr.MetaList.{MetaList}
use Rattle.node_core.specs.declared.attr.MetaNameValue.{MetaNameValue}
use Rattle.node_core.specs.declared.data.«Data».{«Data»}
use Rattle.node_core.specs.declared.data.«Data».TheVariants as body
use Rattle.node_core.specs.declared.data.Field.{Field}
use Rattle.node_core.specs.declared.data.Fields.{Fields}
use Rattle.node_core.specs.declared.data.Fields.TheVariants as fields
use Rattle.node_core.specs.declared.data.FieldsNamed.{FieldsNamed}
use Rattle.node_core.specs.declared.data.FieldsUnnamed.{FieldsUnnamed}
use Rattle.node_core.specs.declared.data.Variant.{Variant}
use Rattle.node_core.specs.declared.data.Visibility.{Visibility}
use Rattle.node_core.specs.declared.data.Visibility.TheVariants as vis
use Rattle.node_core.specs.declared.derive.DeriveInput.{DeriveInput}
use Rattle.node_core.specs.declared.generics.ConstParam.{ConstParam}
use Rattle.node_core.specs.declared.generics.GenericParam.{GenericParam}
use Rattle.node_core.specs.declared.generics.GenericParam.TheVariants as param
use Rattle.node_core.specs.declared.generics.Generics.{Generics}
use Rattle.node_core.specs.declared.generics.LifetimeParam.{LifetimeParam}
use Rattle.node_core.specs.declared.generics.TypeParam.{TypeParam}
use Rattle.node_core.specs.declared.generics.WhereClause.{WhereClause}
use Rattle.node_core.specs.declared.generics.WherePredicate.{WherePredicate}
use Rattle.node_core.specs.declared.generics.WherePredicate.TheVariants as predicate
use Rattle.law_spans.specs.Erased.{erased_stream, erased_ident, erased_lifetime, erased_expr, erased_bound, erased_type, erased_path}

-- ---- attributes

abbrev pub erased_meta_list : MetaList → MetaList
erased_meta_list it = record { path = erased_path it.path; delimiter = it.delimiter; tokens = erased_stream it.tokens; span = CallSite }

abbrev pub erased_name_value : MetaNameValue → MetaNameValue
erased_name_value it = record { path = erased_path it.path; eq_span = CallSite; value = erased_expr it.value; span = CallSite }

abbrev pub erased_meta : Meta → Meta
erased_meta (meta.Path it) = meta.Path (erased_path it)
erased_meta (meta.List it) = meta.List (erased_meta_list it)
erased_meta (meta.NameValue it) = meta.NameValue (erased_name_value it)

abbrev pub erased_attribute : Attribute → Attribute
erased_attribute it = record { meta = erased_meta it.meta; span = CallSite }

-- ---- visibilities

abbrev pub erased_visibility : Visibility → Visibility
erased_visibility vis.Inherited = vis.Inherited
erased_visibility (vis.Public span) = vis.Public CallSite
erased_visibility (vis.Restricted in_token path span) = vis.Restricted in_token (erased_path path) CallSite

-- ---- parameters

abbrev pub erased_lifetime_param : LifetimeParam → LifetimeParam
erased_lifetime_param it = record { attrs = map erased_attribute it.attrs; lifetime = erased_lifetime it.lifetime; bounds = map erased_lifetime it.bounds; span = CallSite }

abbrev pub erased_type_param : TypeParam → TypeParam
erased_type_param it = record { attrs = map erased_attribute it.attrs; ident = erased_ident it.ident; bounds = map erased_bound it.bounds; default = option_map erased_type it.default; span = CallSite }

abbrev pub erased_const_param : ConstParam → ConstParam
erased_const_param it = record { attrs = map erased_attribute it.attrs; ident = erased_ident it.ident; ty = erased_type it.ty; default = option_map erased_expr it.default; span = CallSite }

abbrev pub erased_generic_param : GenericParam → GenericParam
erased_generic_param (param.Lifetime it) = param.Lifetime (erased_lifetime_param it)
erased_generic_param (param.Ty it) = param.Ty (erased_type_param it)
erased_generic_param (param.Const it) = param.Const (erased_const_param it)

abbrev pub erased_predicate : WherePredicate → WherePredicate
erased_predicate (predicate.Lifetime lifetime bounds span) = predicate.Lifetime (erased_lifetime lifetime) (map erased_lifetime bounds) CallSite
erased_predicate (predicate.Ty lifetimes bounded_ty bounds span) = predicate.Ty (map erased_lifetime lifetimes) (erased_type bounded_ty) (map erased_bound bounds) CallSite

abbrev pub erased_where : WhereClause → WhereClause
erased_where it = record { predicates = map erased_predicate it.predicates; span = CallSite }

abbrev pub erased_generics : Generics → Generics
erased_generics it = record { params = map erased_generic_param it.params; where_clause = option_map erased_where it.where_clause; span = CallSite }

-- ---- fields and variants

abbrev pub erased_field : Field → Field
erased_field it = record { attrs = map erased_attribute it.attrs; vis = erased_visibility it.vis; ident = option_map erased_ident it.ident; ty = erased_type it.ty; span = CallSite }

abbrev pub erased_fields_named : FieldsNamed → FieldsNamed
erased_fields_named it = record { named = map erased_field it.named; span = CallSite }

abbrev pub erased_fields_unnamed : FieldsUnnamed → FieldsUnnamed
erased_fields_unnamed it = record { unnamed = map erased_field it.unnamed; span = CallSite }

abbrev pub erased_fields : Fields → Fields
erased_fields (fields.Named it) = fields.Named (erased_fields_named it)
erased_fields (fields.Unnamed it) = fields.Unnamed (erased_fields_unnamed it)
erased_fields fields.Unit = fields.Unit

abbrev pub erased_variant : Variant → Variant
erased_variant it = record { attrs = map erased_attribute it.attrs; ident = erased_ident it.ident; fields = erased_fields it.fields; discriminant = option_map erased_expr it.discriminant; span = CallSite }

-- ---- items

abbrev pub erased_data : «Data» → «Data»
erased_data (body.Struct it) = body.Struct (record { fields = erased_fields it.fields; span = CallSite })
erased_data (body.Enum it) = body.Enum (record { variants = map erased_variant it.variants; span = CallSite })
erased_data (body.Union it) = body.Union (record { fields = erased_fields_named it.fields; span = CallSite })

abbrev pub erased_derive_input : DeriveInput → DeriveInput
erased_derive_input it = record { attrs = map erased_attribute it.attrs; vis = erased_visibility it.vis; ident = erased_ident it.ident; generics = erased_generics it.generics; body = erased_data it.body; span = CallSite }
