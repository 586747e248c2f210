use Rattle.law_nested.proofs.SpansItems.{attribute_in-bare, nested_of-bare}
use Rattle.law_nested.proofs.laws.nested_items_see_no_spans.Goals as goal

pub returns-clause-nested_of : goal.returns-clause-nested_of
returns-clause-nested_of c = nested_of-bare

pub returns-clause-attribute_in : goal.returns-clause-attribute_in
returns-clause-attribute_in c = attribute_in-bare
