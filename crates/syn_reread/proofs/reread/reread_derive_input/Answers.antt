use Rattle.std.proofs.Common.{codes}
use Rattle.syn_grammar.specs.Grammar.{max_depth}
use Rattle.law_round_trip.proofs.Within.{within-backs}
use Rattle.law_round_trip_items.proofs.Wholes.{derive_input_of-back}
use Rattle.syn_reread.proofs.RoundTrips.{comes-back}
use Rattle.syn_reread.proofs.reread.reread_derive_input.Goals as goal

pub returns : goal.returns
returns c = comes-back (derive_input_of-back (within-backs max_depth)) (codes "expected an item") c.in_ok-tokens.tokens c.args.tree.now c.parse_derive_input.result c.in_ok-tokens.ensures c.parse_derive_input.ensures
