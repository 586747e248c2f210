use Rattle.std.proofs.Common.{◌≡◌, take}
use Rattle.tok_types.proofs.clone.+clone.Given as goal

abbrev pub invariant-TokenStreamTryClone::try_clone-loop-tree : goal.invariant-TokenStreamTryClone::try_clone-loop-tree
invariant-TokenStreamTryClone::try_clone-loop-tree l = l.trees ≡ take l.tree-index l.self.trees
