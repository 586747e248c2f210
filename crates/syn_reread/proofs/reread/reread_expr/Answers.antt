use Rattle.std.proofs.Common.{codes}
use Rattle.syn_grammar.specs.Grammar.{max_depth}
use Rattle.law_round_trip.proofs.Wholes.{expr_of-back}
use Rattle.law_round_trip.proofs.Within.{within-backs}
use Rattle.syn_reread.proofs.RoundTrips.{comes-back}
use Rattle.syn_reread.proofs.reread.reread_expr.Goals as goal

pub returns : goal.returns
returns c = comes-back (expr_of-back (within-backs max_depth)) (codes "expected an expression") c.in_ok-tokens.tokens c.args.tree.now c.parse_expr.result c.in_ok-tokens.ensures c.parse_expr.ensures
