use Rattle.std.proofs.Common.{◌∙◌, append-nil}
use Rattle.run_accepted.proofs.RepeatLemmas.{so_far-more}
use Rattle.run_accepted.proofs.repeated.repeated_derives.Goals as goal
use Rattle.run_accepted.proofs.repeated.repeated_derives.Goals.{then-seen-index+in_ok-push, else-seen-index}

pub loop-it-preserved : goal.loop-it-preserved
loop-it-preserved c =
    so_far-more _ _ _ _ _ _ _ c.loop-it-test.true c.index_of-index.ensures.value
    (elim c.if-seen-index.branch [
      | then-seen-index+in_ok-push w ↦ rw (w.if-seen-index.true) (w.repeated-is ∙ w.in_ok-push.ensures.ok)
      | else-seen-index w ↦ rw (w.if-seen-index.false, append-nil) w.repeated-is
    ])
    c.loop-it.invariant
