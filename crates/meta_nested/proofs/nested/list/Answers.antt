use Rattle.std.proofs.Common.{rules, arith}
use Rattle.std.proofs.lemmas.Grind.{common_steps}
use Rattle.syn_grammar.specs.Input.{items_from}
use Rattle.syn_grammar.proofs.Turns.{turn_left, turns_over}
use Rattle.meta_nested.specs.Nested.{item}
use Rattle.meta_nested.proofs.Onward.{comma-moved, item-moved}
use Rattle.meta_nested.proofs.nested.list.Goals as goal

pub returns-then-at_end : goal.returns-then-at_end
unfolding items_from
returns-then-at_end c =
    let turn = turn_left (λ turns. items_from item turns c.loop-turn.found c.loop-turn.tokens) _ c.loop-turn._turn c.loop-turn-test.true c.loop-turn.invariant.list in
    first_of (search rules, grind (arith, common_steps))

pub returns-in_err-next : goal.returns-in_err-next
unfolding items_from
returns-in_err-next c =
    let turn = turn_left (λ turns. items_from item turns c.loop-turn.found c.loop-turn.tokens) _ c.loop-turn._turn c.loop-turn-test.true c.loop-turn.invariant.list in
    first_of (search rules, grind (arith, common_steps))

pub returns-then-not-eat_mark : goal.returns-then-not-eat_mark
unfolding items_from
returns-then-not-eat_mark c =
    let turn = turn_left (λ turns. items_from item turns c.loop-turn.found c.loop-turn.tokens) _ c.loop-turn._turn c.loop-turn-test.true c.loop-turn.invariant.list in
    first_of (search rules, grind (arith, common_steps))

pub loop-turn-preserved : goal.loop-turn-preserved
unfolding items_from
loop-turn-preserved c = record {
  list =
      let turn = turn_left (λ turns. items_from item turns c.loop-turn.found c.loop-turn.tokens) _ c.loop-turn._turn c.loop-turn-test.true c.loop-turn.invariant.list in
      first_of (search rules, grind (arith, common_steps));
  tells = rw c.eat_mark.ensures.after (comma-moved c.in_ok-closings.closings c.item.new.tokens (item-moved c.in_ok-closings.closings c.loop-turn.tokens c.item.new.tokens c.in_ok-next.next (search rules) c.loop-turn.invariant.tells));
}

pub returns-then-at_end-2 : goal.returns-then-at_end-2
unfolding items_from
returns-then-at_end-2 c =
    let over = turns_over (λ turns. items_from item turns c.loop-turn.found c.loop-turn.tokens) _ c.loop-turn._turn c.loop-turn-test.false c.loop-turn.invariant.list in
    first_of (search rules, grind (arith, common_steps))

pub returns : goal.returns
unfolding items_from
returns c =
    let over = turns_over (λ turns. items_from item turns c.loop-turn.found c.loop-turn.tokens) _ c.loop-turn._turn c.loop-turn-test.false c.loop-turn.invariant.list in
    first_of (search rules, grind (arith, common_steps))
