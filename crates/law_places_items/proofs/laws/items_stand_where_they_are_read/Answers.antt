use Rattle.law_places.proofs.Wholes.{stands-of, stands_or_nowhere-of}
use Rattle.law_places_items.proofs.Fields.{fields-stood, fields_named-stood, fields_unnamed-stood, named_field-stood, unnamed_field-stood, variant-stood}
use Rattle.law_places_items.proofs.Generics.{const_value-stood, generic_param-stood, one_type_param-stood, params-stood, where_clause-stood, where_predicate-stood}
use Rattle.law_places_items.proofs.Items.{data_by-stood, item-stood, tuple_struct-stood}
use Rattle.law_places_items.proofs.Visibilities.{scope-stood, visibility-stood}
use Rattle.law_places_items.proofs.laws.items_stand_where_they_are_read.Goals as goal

pub returns-clause-item : goal.returns-clause-item
returns-clause-item c = stands-of item-stood

pub returns-clause-body : goal.returns-clause-body
returns-clause-body c = λ begins. stands-of (data_by-stood begins)

pub returns-clause-tuple_body : goal.returns-clause-tuple_body
returns-clause-tuple_body c = stands-of tuple_struct-stood

pub returns-clause-named_field : goal.returns-clause-named_field
returns-clause-named_field c = stands-of named_field-stood

pub returns-clause-unnamed_field : goal.returns-clause-unnamed_field
returns-clause-unnamed_field c = stands-of unnamed_field-stood

pub returns-clause-fields_named : goal.returns-clause-fields_named
returns-clause-fields_named c = stands-of fields_named-stood

pub returns-clause-fields_unnamed : goal.returns-clause-fields_unnamed
returns-clause-fields_unnamed c = stands-of fields_unnamed-stood

pub returns-clause-fields : goal.returns-clause-fields
returns-clause-fields c = stands_or_nowhere-of fields-stood

pub returns-clause-variant : goal.returns-clause-variant
returns-clause-variant c = stands-of variant-stood

pub returns-clause-visibility : goal.returns-clause-visibility
returns-clause-visibility c = stands_or_nowhere-of visibility-stood

pub returns-clause-param : goal.returns-clause-param
returns-clause-param c = stands-of generic_param-stood

pub returns-clause-type_param : goal.returns-clause-type_param
returns-clause-type_param c = stands-of one_type_param-stood

pub returns-clause-predicate : goal.returns-clause-predicate
returns-clause-predicate c = stands-of where_predicate-stood

pub returns-clause-clause : goal.returns-clause-clause
returns-clause-clause c = stands-of where_clause-stood

pub returns-clause-scope : goal.returns-clause-scope
returns-clause-scope c = stands-of scope-stood

pub returns-clause-params : goal.returns-clause-params
returns-clause-params c = stands_or_nowhere-of params-stood

pub returns-clause-const_default : goal.returns-clause-const_default
returns-clause-const_default c = stands-of const_value-stood
