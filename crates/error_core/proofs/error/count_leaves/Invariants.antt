use Rattle.std.proofs.Common.{◌≡◌, take}
use Rattle.error_core.specs.Preorder.{leaf_count}
use Rattle.error_core.proofs.error.count_leaves.Given as goal

abbrev pub invariant-loop-node : goal.invariant-loop-node
invariant-loop-node l = l.count ≡ leaf_count (take l.node-index l.nodes)
