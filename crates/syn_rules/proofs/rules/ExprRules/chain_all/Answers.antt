use Rattle.std.proofs.Common.{◌+◌, rules, arith}
use Rattle.std.proofs.lemmas.Grind.{common_steps}
use Rattle.syn_grammar.specs.Grammar.{within}
use Rattle.syn_grammar.specs.Expressions.{chain_from}
use Rattle.syn_grammar.proofs.Turns.{turn_left, turns_over}
use Rattle.syn_rules.proofs.Kept.{chain_from-turn, chain_from-stops}
use Rattle.syn_rules.proofs.rules.ExprRules.chain_all.Goals as goal

pub returns-in_default : goal.returns-in_default
unfolding chain_from
returns-in_default g c =
    let turn = turn_left (λ turns. chain_from (within c.args.self.now.rules.depth) c.args.start c.args.below turns c.loop-turn.left c.loop-turn.tokens) _ c.loop-turn._turn c.loop-turn-test.true c.loop-turn.invariant.front in
    first_of (search rules, grind (arith, common_steps))

pub returns-in_err-longer : goal.returns-in_err-longer
returns-in_err-longer g c =
    let step = chain_from-turn (within c.args.self.now.rules.depth) (c.args.self.now.rules.depth + 1) c.args.start c.args.below _ c.loop-turn._turn c.loop-turn.left _ c.loop-turn.tokens c.loop-turn-test.true c.loop-turn.invariant.front c.in-Some.ensures in
    first_of (search rules, grind (arith, common_steps))

pub loop-turn-preserved : goal.loop-turn-preserved
loop-turn-preserved g c =
    let step = chain_from-turn (within c.args.self.now.rules.depth) (c.args.self.now.rules.depth + 1) c.args.start c.args.below _ c.loop-turn._turn c.loop-turn.left _ c.loop-turn.tokens c.loop-turn-test.true c.loop-turn.invariant.front c.in-Some.ensures in
    first_of (search rules, grind (arith, common_steps))

pub returns-then-longer_depth-self : goal.returns-then-longer_depth-self
returns-then-longer_depth-self g c =
    let step = chain_from-turn (within c.args.self.now.rules.depth) (c.args.self.now.rules.depth + 1) c.args.start c.args.below _ c.loop-turn._turn c.loop-turn.left _ c.loop-turn.tokens c.loop-turn-test.true c.loop-turn.invariant.front c.in-Some.ensures in
    rw step (chain_from-stops (within c.args.self.now.rules.depth) (c.args.self.now.rules.depth + 1) c.args.start c.args.below _ _ _ _ c.in_ok-longer.ensures.0 (omega (arith, c.in_ok-longer.ensures)))

pub returns-in_err-finish : goal.returns-in_err-finish
unfolding chain_from
returns-in_err-finish g c =
    let over = turns_over (λ turns. chain_from (within c.args.self.now.rules.depth) c.args.start c.args.below turns c.loop-turn.left c.loop-turn.tokens) _ c.loop-turn._turn c.loop-turn-test.false c.loop-turn.invariant.front in
    first_of (search rules, grind (arith, common_steps))

pub returns : goal.returns
unfolding chain_from
returns g c =
    let over = turns_over (λ turns. chain_from (within c.args.self.now.rules.depth) c.args.start c.args.below turns c.loop-turn.left c.loop-turn.tokens) _ c.loop-turn._turn c.loop-turn-test.false c.loop-turn.invariant.front in
    first_of (search rules, grind (arith, common_steps))
