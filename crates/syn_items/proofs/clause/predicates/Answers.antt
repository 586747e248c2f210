use Rattle.std.proofs.Common.{rules, arith}
use Rattle.std.proofs.lemmas.Grind.{common_steps}
use Rattle.syn_grammar.proofs.Turns.{turn_left, turns_over}
use Rattle.syn_items.specs.Generics.{predicates_from}
use Rattle.syn_items.proofs.clause.predicates.Goals as goal

pub returns-then-ends_where : goal.returns-then-ends_where
unfolding predicates_from
returns-then-ends_where c =
    let turn = turn_left (λ turns. predicates_from turns c.loop-turn.found c.loop-turn.tokens) _ c.loop-turn._turn c.loop-turn-test.true c.loop-turn.invariant in
    first_of (search rules, grind (arith, common_steps))

pub returns-in_err-next : goal.returns-in_err-next
unfolding predicates_from
returns-in_err-next c =
    let turn = turn_left (λ turns. predicates_from turns c.loop-turn.found c.loop-turn.tokens) _ c.loop-turn._turn c.loop-turn-test.true c.loop-turn.invariant in
    first_of (search rules, grind (arith, common_steps))

pub returns-then-not-eat_mark : goal.returns-then-not-eat_mark
unfolding predicates_from
returns-then-not-eat_mark c =
    let turn = turn_left (λ turns. predicates_from turns c.loop-turn.found c.loop-turn.tokens) _ c.loop-turn._turn c.loop-turn-test.true c.loop-turn.invariant in
    first_of (search rules, grind (arith, common_steps))

pub loop-turn-preserved : goal.loop-turn-preserved
unfolding predicates_from
loop-turn-preserved c =
    let turn = turn_left (λ turns. predicates_from turns c.loop-turn.found c.loop-turn.tokens) _ c.loop-turn._turn c.loop-turn-test.true c.loop-turn.invariant in
    first_of (search rules, grind (arith, common_steps))

pub returns-then-ends_where-2 : goal.returns-then-ends_where-2
unfolding predicates_from
returns-then-ends_where-2 c =
    let over = turns_over (λ turns. predicates_from turns c.loop-turn.found c.loop-turn.tokens) _ c.loop-turn._turn c.loop-turn-test.false c.loop-turn.invariant in
    first_of (search rules, grind (arith, common_steps))

pub returns-else-ends_where-2 : goal.returns-else-ends_where-2
unfolding predicates_from
returns-else-ends_where-2 c =
    let over = turns_over (λ turns. predicates_from turns c.loop-turn.found c.loop-turn.tokens) _ c.loop-turn._turn c.loop-turn-test.false c.loop-turn.invariant in
    first_of (search rules, grind (arith, common_steps))
