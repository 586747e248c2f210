use Rattle.std.proofs.Common.{rules, arith}
use Rattle.std.proofs.lemmas.Grind.{common_steps}
use Rattle.syn_grammar.proofs.Turns.{turn_left, turns_over}
use Rattle.syn_items.specs.Lists.{goes_on, while_from}
use Rattle.syn_items.proofs.lists.each_while.Goals as goal

pub returns-then-not-goes_on : goal.returns-then-not-goes_on
unfolding while_from
returns-then-not-goes_on g c =
    let kept = c.loop-turn.invariant in
    let turn = turn_left (λ turns. while_from (goes_on c.args.which) (g.P.ReadItem.reader c.args.item.now) turns c.loop-turn.found c.loop-turn.tokens) _ c.loop-turn._turn c.loop-turn-test.true kept.list in
    first_of (search rules, grind (arith, common_steps))

pub returns-in_err-next : goal.returns-in_err-next
unfolding while_from
returns-in_err-next g c =
    let kept = c.loop-turn.invariant in
    let turn = turn_left (λ turns. while_from (goes_on c.args.which) (g.P.ReadItem.reader c.args.item.now) turns c.loop-turn.found c.loop-turn.tokens) _ c.loop-turn._turn c.loop-turn-test.true kept.list in
    first_of (search rules, grind (arith, common_steps))

pub loop-turn-preserved : goal.loop-turn-preserved
unfolding while_from
loop-turn-preserved g c =
    let kept = c.loop-turn.invariant in
    let turn = turn_left (λ turns. while_from (goes_on c.args.which) (g.P.ReadItem.reader c.args.item.now) turns c.loop-turn.found c.loop-turn.tokens) _ c.loop-turn._turn c.loop-turn-test.true kept.list in
    first_of (search rules, grind (arith, common_steps))

pub returns-then-at_end : goal.returns-then-at_end
unfolding while_from
returns-then-at_end g c =
    let kept = c.loop-turn.invariant in
    let over = turns_over (λ turns. while_from (goes_on c.args.which) (g.P.ReadItem.reader c.args.item.now) turns c.loop-turn.found c.loop-turn.tokens) _ c.loop-turn._turn c.loop-turn-test.false kept.list in
    first_of (search rules, grind (arith, common_steps))

pub returns-else-at_end : goal.returns-else-at_end
unfolding while_from
returns-else-at_end g c =
    let kept = c.loop-turn.invariant in
    let over = turns_over (λ turns. while_from (goes_on c.args.which) (g.P.ReadItem.reader c.args.item.now) turns c.loop-turn.found c.loop-turn.tokens) _ c.loop-turn._turn c.loop-turn-test.false kept.list in
    first_of (search rules, grind (arith, common_steps))
