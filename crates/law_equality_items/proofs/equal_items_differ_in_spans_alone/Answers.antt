use Rattle.law_equality_items.proofs.Attributes.{attribute_told, meta_list_told, meta_told, name_value_told}
use Rattle.law_equality_items.proofs.Generics.{const_param_told, generic_param_told, generics_told, lifetime_param_told, predicate_told, type_param_told, where_clause_told}
use Rattle.law_equality_items.proofs.Items.{body_told, data_enum_told, data_struct_told, data_union_told, derive_input_told, field_told, fields_named_told, fields_told, fields_unnamed_told, variant_told, visibility_told}
use Rattle.law_equality_items.proofs.equal_items_differ_in_spans_alone.Goals as goal

pub returns-clause-attribute : goal.returns-clause-attribute
returns-clause-attribute c = record { at = attribute_told }

pub returns-clause-meta : goal.returns-clause-meta
returns-clause-meta c = record { at = meta_told }

pub returns-clause-meta_list : goal.returns-clause-meta_list
returns-clause-meta_list c = record { at = meta_list_told }

pub returns-clause-meta_name_value : goal.returns-clause-meta_name_value
returns-clause-meta_name_value c = record { at = name_value_told }

pub returns-clause-visibility : goal.returns-clause-visibility
returns-clause-visibility c = record { at = visibility_told }

pub returns-clause-field : goal.returns-clause-field
returns-clause-field c = record { at = field_told }

pub returns-clause-fields : goal.returns-clause-fields
returns-clause-fields c = record { at = fields_told }

pub returns-clause-fields_named : goal.returns-clause-fields_named
returns-clause-fields_named c = record { at = fields_named_told }

pub returns-clause-fields_unnamed : goal.returns-clause-fields_unnamed
returns-clause-fields_unnamed c = record { at = fields_unnamed_told }

pub returns-clause-variant : goal.returns-clause-variant
returns-clause-variant c = record { at = variant_told }

pub returns-clause-body : goal.returns-clause-body
returns-clause-body c = record { at = body_told }

pub returns-clause-data_struct : goal.returns-clause-data_struct
returns-clause-data_struct c = record { at = data_struct_told }

pub returns-clause-data_enum : goal.returns-clause-data_enum
returns-clause-data_enum c = record { at = data_enum_told }

pub returns-clause-data_union : goal.returns-clause-data_union
returns-clause-data_union c = record { at = data_union_told }

pub returns-clause-derive_input : goal.returns-clause-derive_input
returns-clause-derive_input c = record { at = derive_input_told }

pub returns-clause-generics : goal.returns-clause-generics
returns-clause-generics c = record { at = generics_told }

pub returns-clause-generic_param : goal.returns-clause-generic_param
returns-clause-generic_param c = record { at = generic_param_told }

pub returns-clause-lifetime_param : goal.returns-clause-lifetime_param
returns-clause-lifetime_param c = record { at = lifetime_param_told }

pub returns-clause-type_param : goal.returns-clause-type_param
returns-clause-type_param c = record { at = type_param_told }

pub returns-clause-const_param : goal.returns-clause-const_param
returns-clause-const_param c = record { at = const_param_told }

pub returns-clause-where_clause : goal.returns-clause-where_clause
returns-clause-where_clause c = record { at = where_clause_told }

pub returns-clause-where_predicate : goal.returns-clause-where_predicate
returns-clause-where_predicate c = record { at = predicate_told }
