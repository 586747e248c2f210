use Rattle.syn_grammar.specs.Grammar.{max_depth}
use Rattle.law_round_trip.proofs.Within.{within-backs}
use Rattle.law_round_trip_items.proofs.Wholes.{derive_input_of-back, items_of-back, type_param_of-back, visibility_of-back, where_of-back}
use Rattle.law_round_trip_items.proofs.laws.items_are_read_back.Goals as goal

pub returns-clause-items_of : goal.returns-clause-items_of
returns-clause-items_of c = items_of-back (within-backs max_depth)

pub returns-clause-derive_input_of : goal.returns-clause-derive_input_of
returns-clause-derive_input_of c = derive_input_of-back (within-backs max_depth)

pub returns-clause-where_of : goal.returns-clause-where_of
returns-clause-where_of c = where_of-back (within-backs max_depth)

pub returns-clause-visibility_of : goal.returns-clause-visibility_of
returns-clause-visibility_of c = visibility_of-back (within-backs max_depth)

pub returns-clause-type_param_of : goal.returns-clause-type_param_of
returns-clause-type_param_of c = type_param_of-back (within-backs max_depth)
