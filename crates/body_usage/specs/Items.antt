-- What fields, variants, bodies, parameters and predicates mention. Discriminants and defaults are
-- not searched.
use Rattle.std.specs.Prelude.{◌++◌, map}
use Rattle.node_core.specs.declared.data.«Data».{«Data»}
use Rattle.node_core.specs.declared.data.«Data».TheVariants as body
use Rattle.node_core.specs.declared.data.DataEnum.{DataEnum}
use Rattle.node_core.specs.declared.data.DataStruct.{DataStruct}
use Rattle.node_core.specs.declared.data.DataUnion.{DataUnion}
use Rattle.node_core.specs.declared.data.Field.{Field}
use Rattle.node_core.specs.declared.data.Fields.{Fields}
use Rattle.node_core.specs.declared.data.Fields.TheVariants as fields
use Rattle.node_core.specs.declared.data.FieldsNamed.{FieldsNamed}
use Rattle.node_core.specs.declared.data.Variant.{Variant}
use Rattle.node_core.specs.declared.generics.ConstParam.{ConstParam}
use Rattle.node_core.specs.declared.generics.GenericParam.{GenericParam}
use Rattle.node_core.specs.declared.generics.GenericParam.TheVariants as param
use Rattle.node_core.specs.declared.generics.LifetimeParam.{LifetimeParam}
use Rattle.node_core.specs.declared.generics.TypeParam.{TypeParam}
use Rattle.node_core.specs.declared.generics.WherePredicate.{WherePredicate}
use Rattle.node_core.specs.declared.generics.WherePredicate.TheVariants as predicate
use Rattle.body_usage.specs.Mentions.{Mentioned, all_of, nothing, the_lifetime}
use Rattle.body_usage.specs.Nodes.{bound_mentions, type_mentions}

abbrev pub field_mentions : Field → Mentioned
field_mentions it = type_mentions it.ty

abbrev pub named_mentions : FieldsNamed → Mentioned
named_mentions it = all_of (map field_mentions it.named)

abbrev pub fields_mentions : Fields → Mentioned
fields_mentions (fields.Named it) = named_mentions it
fields_mentions (fields.Unnamed it) = all_of (map field_mentions it.unnamed)
fields_mentions fields.Unit = nothing

abbrev pub variant_mentions : Variant → Mentioned
variant_mentions it = fields_mentions it.fields

abbrev pub struct_mentions : DataStruct → Mentioned
struct_mentions it = fields_mentions it.fields

abbrev pub enum_mentions : DataEnum → Mentioned
enum_mentions it = all_of (map variant_mentions it.variants)

abbrev pub union_mentions : DataUnion → Mentioned
union_mentions it = named_mentions it.fields

abbrev pub data_mentions : «Data» → Mentioned
data_mentions (body.Struct it) = struct_mentions it
data_mentions (body.Enum it) = enum_mentions it
data_mentions (body.Union it) = union_mentions it

-- the binder of a predicate counts
abbrev pub predicate_mentions : WherePredicate → Mentioned
predicate_mentions (predicate.Lifetime it bounds span) in_qself = the_lifetime it in_qself ++ all_of (map the_lifetime bounds) in_qself
predicate_mentions (predicate.Ty lifetimes bounded_ty bounds span) in_qself =
    all_of (map the_lifetime lifetimes) in_qself ++ type_mentions bounded_ty in_qself ++ all_of (map bound_mentions bounds) in_qself

abbrev pub lifetime_param_mentions : LifetimeParam → Mentioned
lifetime_param_mentions it in_qself = the_lifetime it.lifetime in_qself ++ all_of (map the_lifetime it.bounds) in_qself

abbrev pub type_param_mentions : TypeParam → Mentioned
type_param_mentions it = all_of (map bound_mentions it.bounds)

abbrev pub const_param_mentions : ConstParam → Mentioned
const_param_mentions it = type_mentions it.ty

abbrev pub param_mentions : GenericParam → Mentioned
param_mentions (param.Lifetime it) = lifetime_param_mentions it
param_mentions (param.Ty it) = type_param_mentions it
param_mentions (param.Const it) = const_param_mentions it
