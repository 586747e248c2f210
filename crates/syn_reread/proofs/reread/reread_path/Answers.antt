use Rattle.std.proofs.Common.{codes}
use Rattle.syn_grammar.specs.Grammar.{max_depth}
use Rattle.law_round_trip.proofs.Wholes.{path_of-back}
use Rattle.law_round_trip.proofs.Within.{within-backs}
use Rattle.syn_reread.proofs.RoundTrips.{comes-back}
use Rattle.syn_reread.proofs.reread.reread_path.Goals as goal

pub returns : goal.returns
returns c = comes-back (path_of-back (within-backs max_depth)) (codes "expected a path") c.in_ok-tokens.tokens c.args.tree.now c.parse_path.result c.in_ok-tokens.ensures c.parse_path.ensures
