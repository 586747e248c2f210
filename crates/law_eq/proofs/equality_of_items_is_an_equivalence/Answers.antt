use Rattle.node_core.specs.contracts.attr.AttributeEq.TheImpl.Laws as attribute
use Rattle.node_core.specs.contracts.attr.MetaEq.TheImpl.Laws as meta
use Rattle.node_core.specs.contracts.attr.MetaListEq.TheImpl.Laws as meta_list
use Rattle.node_core.specs.contracts.attr.MetaNameValueEq.TheImpl.Laws as meta_name_value
use Rattle.node_core.specs.contracts.data.VisibilityEq.TheImpl.Laws as visibility
use Rattle.node_core.specs.contracts.data.FieldEq.TheImpl.Laws as field
use Rattle.node_core.specs.contracts.data.FieldsEq.TheImpl.Laws as fields
use Rattle.node_core.specs.contracts.data.FieldsNamedEq.TheImpl.Laws as fields_named
use Rattle.node_core.specs.contracts.data.FieldsUnnamedEq.TheImpl.Laws as fields_unnamed
use Rattle.node_core.specs.contracts.data.VariantEq.TheImpl.Laws as variant
use Rattle.node_core.specs.contracts.data.DataEq.TheImpl.Laws as body
use Rattle.node_core.specs.contracts.data.DataStructEq.TheImpl.Laws as data_struct
use Rattle.node_core.specs.contracts.data.DataEnumEq.TheImpl.Laws as data_enum
use Rattle.node_core.specs.contracts.data.DataUnionEq.TheImpl.Laws as data_union
use Rattle.node_core.specs.contracts.derive.DeriveInputEq.TheImpl.Laws as derive_input
use Rattle.node_core.specs.contracts.generics.GenericsEq.TheImpl.Laws as generics
use Rattle.node_core.specs.contracts.generics.GenericParamEq.TheImpl.Laws as generic_param
use Rattle.node_core.specs.contracts.generics.LifetimeParamEq.TheImpl.Laws as lifetime_param
use Rattle.node_core.specs.contracts.generics.TypeParamEq.TheImpl.Laws as type_param
use Rattle.node_core.specs.contracts.generics.ConstParamEq.TheImpl.Laws as const_param
use Rattle.node_core.specs.contracts.generics.WhereClauseEq.TheImpl.Laws as where_clause
use Rattle.node_core.specs.contracts.generics.WherePredicateEq.TheImpl.Laws as where_predicate
use Rattle.node_expr.specs.contracts.ty.FnArgEq.TheImpl.Laws as fn_arg
use Rattle.law_eq.proofs.equality_of_items_is_an_equivalence.Goals as goal

pub returns-clause-attribute : goal.returns-clause-attribute
returns-clause-attribute c = attribute.laws-law

pub returns-clause-meta : goal.returns-clause-meta
returns-clause-meta c = meta.laws-law

pub returns-clause-meta_list : goal.returns-clause-meta_list
returns-clause-meta_list c = meta_list.laws-law

pub returns-clause-meta_name_value : goal.returns-clause-meta_name_value
returns-clause-meta_name_value c = meta_name_value.laws-law

pub returns-clause-visibility : goal.returns-clause-visibility
returns-clause-visibility c = visibility.laws-law

pub returns-clause-field : goal.returns-clause-field
returns-clause-field c = field.laws-law

pub returns-clause-fields : goal.returns-clause-fields
returns-clause-fields c = fields.laws-law

pub returns-clause-fields_named : goal.returns-clause-fields_named
returns-clause-fields_named c = fields_named.laws-law

pub returns-clause-fields_unnamed : goal.returns-clause-fields_unnamed
returns-clause-fields_unnamed c = fields_unnamed.laws-law

pub returns-clause-variant : goal.returns-clause-variant
returns-clause-variant c = variant.laws-law

pub returns-clause-body : goal.returns-clause-body
returns-clause-body c = body.laws-law

pub returns-clause-data_struct : goal.returns-clause-data_struct
returns-clause-data_struct c = data_struct.laws-law

pub returns-clause-data_enum : goal.returns-clause-data_enum
returns-clause-data_enum c = data_enum.laws-law

pub returns-clause-data_union : goal.returns-clause-data_union
returns-clause-data_union c = data_union.laws-law

pub returns-clause-derive_input : goal.returns-clause-derive_input
returns-clause-derive_input c = derive_input.laws-law

pub returns-clause-generics : goal.returns-clause-generics
returns-clause-generics c = generics.laws-law

pub returns-clause-generic_param : goal.returns-clause-generic_param
returns-clause-generic_param c = generic_param.laws-law

pub returns-clause-lifetime_param : goal.returns-clause-lifetime_param
returns-clause-lifetime_param c = lifetime_param.laws-law

pub returns-clause-type_param : goal.returns-clause-type_param
returns-clause-type_param c = type_param.laws-law

pub returns-clause-const_param : goal.returns-clause-const_param
returns-clause-const_param c = const_param.laws-law

pub returns-clause-where_clause : goal.returns-clause-where_clause
returns-clause-where_clause c = where_clause.laws-law

pub returns-clause-where_predicate : goal.returns-clause-where_predicate
returns-clause-where_predicate c = where_predicate.laws-law

pub returns-clause-fn_arg : goal.returns-clause-fn_arg
returns-clause-fn_arg c = fn_arg.laws-law
