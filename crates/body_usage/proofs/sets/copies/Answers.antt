use Rattle.body_usage.proofs.Selected.{set-of-shown}
use Rattle.body_usage.proofs.sets.copies.Goals as goal

pub loop-name-preserved : goal.loop-name-preserved
loop-name-preserved g c = set-of-shown c.loop-name.yielded _ c.loop-name.answer.keys _ c.loop-name.invariant c.in_ok-add_copy.ensures
