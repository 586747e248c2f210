use Rattle.node_core.specs.contracts.attr.AttributeHash.TheImpl.Laws as attribute
use Rattle.node_core.specs.contracts.attr.MetaHash.TheImpl.Laws as meta
use Rattle.node_core.specs.contracts.attr.MetaListHash.TheImpl.Laws as meta_list
use Rattle.node_core.specs.contracts.attr.MetaNameValueHash.TheImpl.Laws as meta_name_value
use Rattle.node_core.specs.contracts.data.VisibilityHash.TheImpl.Laws as visibility
use Rattle.node_core.specs.contracts.data.FieldHash.TheImpl.Laws as field
use Rattle.node_core.specs.contracts.data.FieldsHash.TheImpl.Laws as fields
use Rattle.node_core.specs.contracts.data.FieldsNamedHash.TheImpl.Laws as fields_named
use Rattle.node_core.specs.contracts.data.FieldsUnnamedHash.TheImpl.Laws as fields_unnamed
use Rattle.node_core.specs.contracts.data.VariantHash.TheImpl.Laws as variant
use Rattle.node_core.specs.contracts.data.DataHash.TheImpl.Laws as body
use Rattle.node_core.specs.contracts.data.DataStructHash.TheImpl.Laws as data_struct
use Rattle.node_core.specs.contracts.data.DataEnumHash.TheImpl.Laws as data_enum
use Rattle.node_core.specs.contracts.data.DataUnionHash.TheImpl.Laws as data_union
use Rattle.node_core.specs.contracts.derive.DeriveInputHash.TheImpl.Laws as derive_input
use Rattle.node_core.specs.contracts.generics.GenericsHash.TheImpl.Laws as generics
use Rattle.node_core.specs.contracts.generics.GenericParamHash.TheImpl.Laws as generic_param
use Rattle.node_core.specs.contracts.generics.LifetimeParamHash.TheImpl.Laws as lifetime_param
use Rattle.node_core.specs.contracts.generics.TypeParamHash.TheImpl.Laws as type_param
use Rattle.node_core.specs.contracts.generics.ConstParamHash.TheImpl.Laws as const_param
use Rattle.node_core.specs.contracts.generics.WhereClauseHash.TheImpl.Laws as where_clause
use Rattle.node_core.specs.contracts.generics.WherePredicateHash.TheImpl.Laws as where_predicate
use Rattle.node_expr.specs.contracts.ty.FnArgHash.TheImpl.Laws as fn_arg
use Rattle.law_eq.proofs.equal_items_hash_alike.Goals as goal

pub returns-clause-attribute : goal.returns-clause-attribute
returns-clause-attribute c = record { fed = attribute.respects_eq-law }

pub returns-clause-meta : goal.returns-clause-meta
returns-clause-meta c = record { fed = meta.respects_eq-law }

pub returns-clause-meta_list : goal.returns-clause-meta_list
returns-clause-meta_list c = record { fed = meta_list.respects_eq-law }

pub returns-clause-meta_name_value : goal.returns-clause-meta_name_value
returns-clause-meta_name_value c = record { fed = meta_name_value.respects_eq-law }

pub returns-clause-visibility : goal.returns-clause-visibility
returns-clause-visibility c = record { fed = visibility.respects_eq-law }

pub returns-clause-field : goal.returns-clause-field
returns-clause-field c = record { fed = field.respects_eq-law }

pub returns-clause-fields : goal.returns-clause-fields
returns-clause-fields c = record { fed = fields.respects_eq-law }

pub returns-clause-fields_named : goal.returns-clause-fields_named
returns-clause-fields_named c = record { fed = fields_named.respects_eq-law }

pub returns-clause-fields_unnamed : goal.returns-clause-fields_unnamed
returns-clause-fields_unnamed c = record { fed = fields_unnamed.respects_eq-law }

pub returns-clause-variant : goal.returns-clause-variant
returns-clause-variant c = record { fed = variant.respects_eq-law }

pub returns-clause-body : goal.returns-clause-body
returns-clause-body c = record { fed = body.respects_eq-law }

pub returns-clause-data_struct : goal.returns-clause-data_struct
returns-clause-data_struct c = record { fed = data_struct.respects_eq-law }

pub returns-clause-data_enum : goal.returns-clause-data_enum
returns-clause-data_enum c = record { fed = data_enum.respects_eq-law }

pub returns-clause-data_union : goal.returns-clause-data_union
returns-clause-data_union c = record { fed = data_union.respects_eq-law }

pub returns-clause-derive_input : goal.returns-clause-derive_input
returns-clause-derive_input c = record { fed = derive_input.respects_eq-law }

pub returns-clause-generics : goal.returns-clause-generics
returns-clause-generics c = record { fed = generics.respects_eq-law }

pub returns-clause-generic_param : goal.returns-clause-generic_param
returns-clause-generic_param c = record { fed = generic_param.respects_eq-law }

pub returns-clause-lifetime_param : goal.returns-clause-lifetime_param
returns-clause-lifetime_param c = record { fed = lifetime_param.respects_eq-law }

pub returns-clause-type_param : goal.returns-clause-type_param
returns-clause-type_param c = record { fed = type_param.respects_eq-law }

pub returns-clause-const_param : goal.returns-clause-const_param
returns-clause-const_param c = record { fed = const_param.respects_eq-law }

pub returns-clause-where_clause : goal.returns-clause-where_clause
returns-clause-where_clause c = record { fed = where_clause.respects_eq-law }

pub returns-clause-where_predicate : goal.returns-clause-where_predicate
returns-clause-where_predicate c = record { fed = where_predicate.respects_eq-law }

pub returns-clause-fn_arg : goal.returns-clause-fn_arg
returns-clause-fn_arg c = record { fed = fn_arg.respects_eq-law }
