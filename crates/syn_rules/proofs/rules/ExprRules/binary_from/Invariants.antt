use Rattle.std.proofs.Common.{◌≡◌, ◌+◌, ◌≤◌, Some}
use Rattle.syn_grammar.specs.Depth.{expr_depth}
use Rattle.syn_grammar.specs.Grammar.{within}
use Rattle.syn_grammar.specs.Expressions.{binary_from}
use Rattle.syn_rules.proofs.rules.ExprRules.binary_from.Given as goal

abbrev pub invariant-loop-below : goal.invariant-loop-below
invariant-loop-below g l = record {
  front : binary_from (within l.self.rules.depth) l.fn.start l.below l.fn.tokens ≡ Some (l.left, l.tokens);
  depth : l.depth ≡ expr_depth l.left;
  limit : l.depth ≤ l.self.rules.depth + 1;
}
