use Rattle.std.proofs.Common.{codes}
use Rattle.syn_grammar.specs.Grammar.{max_depth}
use Rattle.law_round_trip.proofs.Within.{within-backs}
use Rattle.law_round_trip_items.proofs.Wholes.{type_param_of-back}
use Rattle.syn_reread.proofs.RoundTrips.{comes-back}
use Rattle.syn_reread.proofs.reread.reread_type_param.Goals as goal

pub returns : goal.returns
returns c = comes-back (type_param_of-back (within-backs max_depth)) (codes "expected a type parameter") c.in_ok-tokens.tokens c.args.tree.now c.parse_type_param.result c.in_ok-tokens.ensures c.parse_type_param.ensures
