use Rattle.std.proofs.Common.{rules, sym}
use Rattle.syn_grammar.specs.Input.{skipped}
use Rattle.syn_grammar.proofs.Turns.{turn_left, turns_over}
use Rattle.syn_grammar.proofs.cursor.Cursor.skip_by.Goals as goal

pub loop-turn-preserved : goal.loop-turn-preserved
unfolding skipped
loop-turn-preserved c =
    let left = turn_left (λ turns. skipped turns c.loop-turn.self) _ c.loop-turn._turn c.loop-turn-test.true c.loop-turn.invariant in
    search rules

pub returns : goal.returns
unfolding skipped
returns c = sym (turns_over (λ turns. skipped turns c.loop-turn.self) _ c.loop-turn._turn c.loop-turn-test.false c.loop-turn.invariant)
