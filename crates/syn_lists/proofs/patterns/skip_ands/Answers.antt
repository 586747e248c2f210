use Rattle.std.proofs.Common.{rules, arith}
use Rattle.std.proofs.lemmas.Grind.{common_steps}
use Rattle.syn_grammar.specs.Patterns.{ands_from}
use Rattle.syn_grammar.proofs.Turns.{turn_left, turns_over}
use Rattle.syn_lists.proofs.patterns.skip_ands.Goals as goal

pub returns-then-not-eat_mark : goal.returns-then-not-eat_mark
unfolding ands_from
returns-then-not-eat_mark c =
    let turn = turn_left (λ turns. ands_from turns c.loop-turn.tokens) _ c.loop-turn._turn c.loop-turn-test.true c.loop-turn.invariant in
    first_of (search rules, grind (arith, common_steps))

pub loop-turn-preserved : goal.loop-turn-preserved
unfolding ands_from
loop-turn-preserved c =
    let turn = turn_left (λ turns. ands_from turns c.loop-turn.tokens) _ c.loop-turn._turn c.loop-turn-test.true c.loop-turn.invariant in
    first_of (search rules, grind (arith, common_steps))

pub returns : goal.returns
unfolding ands_from
returns c = turns_over (λ turns. ands_from turns c.loop-turn.tokens) _ c.loop-turn._turn c.loop-turn-test.false c.loop-turn.invariant
