use Rattle.std.proofs.Common.{◌≡◌, ◌+◌, ◌-◌, ◌≤◌}
use Rattle.syn_grammar.specs.Depth.{expr_depth}
use Rattle.syn_grammar.specs.Grammar.{within}
use Rattle.syn_grammar.specs.Expressions.{postfixes, postfixes_from}
use Rattle.syn_rules.proofs.rules.ExprRules.postfixes.Given as goal

abbrev pub invariant-loop-turn : goal.invariant-loop-turn
invariant-loop-turn g l = record {
  front : postfixes (within l.self.rules.depth) l.fn.start l.fn.left l.fn.tokens ≡ postfixes_from (within l.self.rules.depth) l.fn.start (l._turn-end - l._turn) l.left l.tokens;
  depth : l.depth ≡ expr_depth l.left;
  limit : l.depth ≤ l.self.rules.depth + 1;
}
