use Rattle.std.proofs.Common.{◌+◌, arith}
use Rattle.syn_grammar.specs.Grammar.{within}
use Rattle.syn_rules.proofs.Kept.{compared-stops}
use Rattle.syn_rules.proofs.rules.ExprRules.compared.Goals as goal

pub returns-then-longer_depth-self : goal.returns-then-longer_depth-self
returns-then-longer_depth-self g c =
    compared-stops (within c.args.self.now.rules.depth) (c.args.self.now.rules.depth + 1) _ _ _ _ _ _ _ c.in-Some.ensures c.in_ok-longer.ensures.0 (omega (arith, c.in_ok-longer.ensures))
