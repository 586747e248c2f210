use Rattle.std.proofs.Common.{◌≡◌, ◌-◌, ◌≤◌}
use Rattle.syn_grammar.specs.Depth.{expr_depth}
use Rattle.syn_grammar.specs.Grammar.{within}
use Rattle.syn_grammar.specs.Expressions.{statements, statements_from}
use Rattle.syn_lists.specs.Lists.{all_depth}
use Rattle.syn_rules.proofs.rules.ExprRules.statements.Given as goal

abbrev pub invariant-loop-turn : goal.invariant-loop-turn
invariant-loop-turn g l = record {
  front : statements (within l.self.rules.depth) l.fn.span l.fn.tokens ≡ statements_from (within l.self.rules.depth) l.fn.span (l._turn-end - l._turn) l.stmts l.tokens;
  depth : l.depth ≡ all_depth expr_depth l.stmts;
  limit : l.depth ≤ l.self.rules.depth;
}
