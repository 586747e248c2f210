use Rattle.std.proofs.Common.{◌+◌, rules, arith}
use Rattle.std.proofs.lemmas.Grind.{common_steps}
use Rattle.syn_grammar.specs.Grammar.{within}
use Rattle.syn_grammar.specs.Expressions.{postfixes_from}
use Rattle.syn_grammar.proofs.Turns.{turn_left, turns_over}
use Rattle.syn_rules.proofs.Kept.{postfixes_from-turn, postfixes_from-stops}
use Rattle.syn_rules.proofs.rules.ExprRules.postfixes.Goals as goal

pub returns-then-not-goes_on : goal.returns-then-not-goes_on
unfolding postfixes_from
returns-then-not-goes_on g c =
    let turn = turn_left (λ turns. postfixes_from (within c.args.self.now.rules.depth) c.args.start turns c.loop-turn.left c.loop-turn.tokens) _ c.loop-turn._turn c.loop-turn-test.true c.loop-turn.invariant.front in
    first_of (search rules, grind (arith, common_steps))

pub returns-in_err-longer : goal.returns-in_err-longer
returns-in_err-longer g c =
    let step = postfixes_from-turn (within c.args.self.now.rules.depth) (c.args.self.now.rules.depth + 1) c.args.start _ c.loop-turn._turn c.loop-turn.left c.postfix_start-begins.result c.loop-turn.tokens c.loop-turn-test.true c.loop-turn.invariant.front (search rules) (search rules) in
    first_of (search rules, grind (arith, common_steps))

pub loop-turn-preserved : goal.loop-turn-preserved
loop-turn-preserved g c =
    let step = postfixes_from-turn (within c.args.self.now.rules.depth) (c.args.self.now.rules.depth + 1) c.args.start _ c.loop-turn._turn c.loop-turn.left c.postfix_start-begins.result c.loop-turn.tokens c.loop-turn-test.true c.loop-turn.invariant.front (search rules) (search rules) in
    first_of (search rules, grind (arith, common_steps))

pub returns-then-longer_depth-self : goal.returns-then-longer_depth-self
returns-then-longer_depth-self g c =
    let step = postfixes_from-turn (within c.args.self.now.rules.depth) (c.args.self.now.rules.depth + 1) c.args.start _ c.loop-turn._turn c.loop-turn.left c.postfix_start-begins.result c.loop-turn.tokens c.loop-turn-test.true c.loop-turn.invariant.front (search rules) (search rules) in
    rw step (postfixes_from-stops (within c.args.self.now.rules.depth) (c.args.self.now.rules.depth + 1) c.args.start _ _ _ _ c.in_ok-longer.ensures.0 (omega (arith, c.in_ok-longer.ensures)))

pub returns-in_err-finish : goal.returns-in_err-finish
unfolding postfixes_from
returns-in_err-finish g c =
    let over = turns_over (λ turns. postfixes_from (within c.args.self.now.rules.depth) c.args.start turns c.loop-turn.left c.loop-turn.tokens) _ c.loop-turn._turn c.loop-turn-test.false c.loop-turn.invariant.front in
    first_of (search rules, grind (arith, common_steps))

pub returns : goal.returns
unfolding postfixes_from
returns g c =
    let over = turns_over (λ turns. postfixes_from (within c.args.self.now.rules.depth) c.args.start turns c.loop-turn.left c.loop-turn.tokens) _ c.loop-turn._turn c.loop-turn-test.false c.loop-turn.invariant.front in
    first_of (search rules, grind (arith, common_steps))
