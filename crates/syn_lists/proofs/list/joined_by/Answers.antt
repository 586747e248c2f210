use Rattle.std.proofs.Common.{rules, arith}
use Rattle.std.proofs.lemmas.Grind.{common_steps}
use Rattle.syn_grammar.specs.Input.{joined_from}
use Rattle.syn_grammar.proofs.Turns.{turn_left, turns_over}
use Rattle.syn_lists.specs.Lists.{eat_joint}
use Rattle.syn_lists.proofs.list.joined_by.Goals as goal

pub returns-in_err-next-clause-gives : goal.returns-in_err-next-clause-gives
unfolding joined_from
returns-in_err-next-clause-gives g c =
    let kept = c.loop-turn.invariant in
    let turn = turn_left (λ turns. joined_from (eat_joint c.args.joint) (g.P.ReadItem.reader c.args.item.now) turns c.loop-turn.found c.loop-turn.tokens) _ c.loop-turn._turn c.loop-turn-test.true kept.list in
    first_of (search rules, grind (arith, common_steps))

pub returns-then-not-eat_joint-clause-gives : goal.returns-then-not-eat_joint-clause-gives
unfolding joined_from
returns-then-not-eat_joint-clause-gives g c =
    let kept = c.loop-turn.invariant in
    let turn = turn_left (λ turns. joined_from (eat_joint c.args.joint) (g.P.ReadItem.reader c.args.item.now) turns c.loop-turn.found c.loop-turn.tokens) _ c.loop-turn._turn c.loop-turn-test.true kept.list in
    first_of (search rules, grind (arith, common_steps))

pub loop-turn-preserved : goal.loop-turn-preserved
unfolding joined_from
loop-turn-preserved g c =
    let kept = c.loop-turn.invariant in
    let turn = turn_left (λ turns. joined_from (eat_joint c.args.joint) (g.P.ReadItem.reader c.args.item.now) turns c.loop-turn.found c.loop-turn.tokens) _ c.loop-turn._turn c.loop-turn-test.true kept.list in
    first_of (search rules, grind (arith, common_steps))

pub returns-clause-gives : goal.returns-clause-gives
unfolding joined_from
returns-clause-gives g c =
    let kept = c.loop-turn.invariant in
    let over = turns_over (λ turns. joined_from (eat_joint c.args.joint) (g.P.ReadItem.reader c.args.item.now) turns c.loop-turn.found c.loop-turn.tokens) _ c.loop-turn._turn c.loop-turn-test.false kept.list in
    first_of (search rules, grind (arith, common_steps))
