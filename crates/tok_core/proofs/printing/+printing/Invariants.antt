use Rattle.std.proofs.Common.{◌≡◌, ◌++◌, true, map, drop}
use Rattle.tok_core.specs.Flat.{tree_view, trees_of}
use Rattle.tok_core.specs.Printing.{texts_of}
use Rattle.tok_core.proofs.printing.+printing.Given as goal

abbrev pub invariant-push_trees-loop-tree : goal.invariant-push_trees-loop-tree
invariant-push_trees-loop-tree l =
    l.text ++ texts_of l.joint (trees_of (map tree_view (drop l.tree-index l.trees)))
    ≡ l.fn.text ++ texts_of true (trees_of (map tree_view l.trees))
