use Rattle.std.proofs.Common.{◌≡◌, ◌+◌, ◌-◌, ◌≤◌}
use Rattle.syn_grammar.specs.Depth.{expr_depth}
use Rattle.syn_grammar.specs.Grammar.{within}
use Rattle.syn_grammar.specs.Expressions.{chain_all, chain_from}
use Rattle.syn_rules.proofs.rules.ExprRules.chain_all.Given as goal

abbrev pub invariant-loop-turn : goal.invariant-loop-turn
invariant-loop-turn g l = record {
  front : chain_all (within l.self.rules.depth) l.fn.start l.fn.below l.fn.left l.fn.tokens ≡ chain_from (within l.self.rules.depth) l.fn.start l.fn.below (l._turn-end - l._turn) l.left l.tokens;
  depth : l.depth ≡ expr_depth l.left;
  limit : l.depth ≤ l.self.rules.depth + 1;
}
