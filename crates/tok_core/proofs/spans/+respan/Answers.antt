use Rattle.std.proofs.Common.{add-one}
use Rattle.tok_types.specs.Respan.{tree_at}
use Rattle.tok_core.proofs.Lists.{slice_set-map_take}
use Rattle.tok_core.proofs.spans.+respan.Goals as goal

pub respan_trees-loop-i-preserved : goal.respan_trees-loop-i-preserved
respan_trees-loop-i-preserved t c =
    let e = rw c.loop-i.invariant at c.replace-tree.ensures.item in
    rw (add-one, c.set.ensures, c.respan_tree.ensures, c.replace-tree.ensures.rest, c.loop-i.invariant)
    (slice_set-map_take (tree_at c.args.span) c.args.trees.now c.loop-i.i _ _ e)
