use Rattle.law_spans_items.proofs.Wholes.{items_of-bare, derive_input_of-bare, where_of-bare, visibility_of-bare, type_param_of-bare}
use Rattle.law_spans_items.proofs.laws.items_see_no_spans.Goals as goal

pub returns-clause-items_of : goal.returns-clause-items_of
returns-clause-items_of c = items_of-bare

pub returns-clause-derive_input_of : goal.returns-clause-derive_input_of
returns-clause-derive_input_of c = derive_input_of-bare

pub returns-clause-where_of : goal.returns-clause-where_of
returns-clause-where_of c = where_of-bare

pub returns-clause-visibility_of : goal.returns-clause-visibility_of
returns-clause-visibility_of c = visibility_of-bare

pub returns-clause-type_param_of : goal.returns-clause-type_param_of
returns-clause-type_param_of c = type_param_of-bare
