use Rattle.std.proofs.Common.{rules, arith}
use Rattle.std.proofs.lemmas.Grind.{common_steps}
use Rattle.syn_grammar.proofs.Deepest.{deepest-map-push}
use Rattle.syn_grammar.specs.Grammar.{within}
use Rattle.syn_grammar.specs.Expressions.{statements_from}
use Rattle.syn_grammar.proofs.Turns.{turn_left, turns_over}
use Rattle.syn_rules.proofs.Nodes.{expr_depth-Block-None, expr_depth-Block-Some}
use Rattle.syn_rules.proofs.rules.ExprRules.statements.Goals as goal

pub returns-then-at_end : goal.returns-then-at_end
unfolding statements_from
returns-then-at_end g c =
    let turn = turn_left (λ turns. statements_from (within c.args.self.now.rules.depth) c.args.span turns c.loop-turn.stmts c.loop-turn.tokens) _ c.loop-turn._turn c.loop-turn-test.true c.loop-turn.invariant.front in
    let deep = expr_depth-Block-None c.loop-turn.stmts c.args.span in
    first_of (search rules, grind (arith, common_steps))

pub returns-in_err-statement : goal.returns-in_err-statement
unfolding statements_from
returns-in_err-statement g c =
    let turn = turn_left (λ turns. statements_from (within c.args.self.now.rules.depth) c.args.span turns c.loop-turn.stmts c.loop-turn.tokens) _ c.loop-turn._turn c.loop-turn-test.true c.loop-turn.invariant.front in
    first_of (search rules, grind (arith, common_steps))

pub returns-then-not-eat_mark : goal.returns-then-not-eat_mark
unfolding statements_from
returns-then-not-eat_mark g c =
    let turn = turn_left (λ turns. statements_from (within c.args.self.now.rules.depth) c.args.span turns c.loop-turn.stmts c.loop-turn.tokens) _ c.loop-turn._turn c.loop-turn-test.true c.loop-turn.invariant.front in
    let deep = expr_depth-Block-Some c.loop-turn.stmts c.in_ok-statement.statement c.args.span in
    first_of (search rules, grind (arith, common_steps))

pub loop-turn-preserved : goal.loop-turn-preserved
unfolding statements_from
loop-turn-preserved g c =
    let turn = turn_left (λ turns. statements_from (within c.args.self.now.rules.depth) c.args.span turns c.loop-turn.stmts c.loop-turn.tokens) _ c.loop-turn._turn c.loop-turn-test.true c.loop-turn.invariant.front in
    first_of (search rules, grind (arith, common_steps, deepest-map-push))

pub returns-in_err-finish : goal.returns-in_err-finish
unfolding statements_from
returns-in_err-finish g c =
    let over = turns_over (λ turns. statements_from (within c.args.self.now.rules.depth) c.args.span turns c.loop-turn.stmts c.loop-turn.tokens) _ c.loop-turn._turn c.loop-turn-test.false c.loop-turn.invariant.front in
    first_of (search rules, grind (arith, common_steps))

pub returns : goal.returns
unfolding statements_from
returns g c =
    let over = turns_over (λ turns. statements_from (within c.args.self.now.rules.depth) c.args.span turns c.loop-turn.stmts c.loop-turn.tokens) _ c.loop-turn._turn c.loop-turn-test.false c.loop-turn.invariant.front in
    let deep = expr_depth-Block-None c.loop-turn.stmts c.args.span in
    first_of (search rules, grind (arith, common_steps))
