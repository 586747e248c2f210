use Rattle.std.proofs.Common.{arith}
use Rattle.std.proofs.lemmas.Grind.{common_steps}
use Rattle.std.proofs.lemmas.List.Sums.{count_by_more_yes, count_by_more_no}
use Rattle.error_core.proofs.error.count_leaves.Goals.{then-node-eq1, else-node-eq1}
use Rattle.error_core.proofs.error.count_leaves.Goals as goal

pub loop-node-preserved : goal.loop-node-preserved
loop-node-preserved c = elim c.if-node-eq1.branch [
  | then-node-eq1 w ↦ grind (arith, common_steps, count_by_more_yes)
  | else-node-eq1 w ↦ grind (arith, common_steps, count_by_more_no)
]
