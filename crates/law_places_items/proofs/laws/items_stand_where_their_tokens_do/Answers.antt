use Rattle.law_places_items.proofs.Wholes.{derive_input_of-stands, where_of-stands, type_param_of-stands, visibility_of-stands}
use Rattle.law_places_items.proofs.laws.items_stand_where_their_tokens_do.Goals as goal

pub returns-clause-derive_input_of : goal.returns-clause-derive_input_of
returns-clause-derive_input_of c = derive_input_of-stands

pub returns-clause-where_of : goal.returns-clause-where_of
returns-clause-where_of c = where_of-stands

pub returns-clause-type_param_of : goal.returns-clause-type_param_of
returns-clause-type_param_of c = type_param_of-stands

pub returns-clause-visibility_of : goal.returns-clause-visibility_of
returns-clause-visibility_of c = visibility_of-stands
