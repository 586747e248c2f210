use Rattle.std.proofs.Common.{◌≡◌, ◌++◌, take, drop, map}
use Rattle.tok_types.specs.Respan.{tree_at}
use Rattle.tok_core.proofs.spans.+respan.Given as goal

abbrev pub invariant-respan_trees-loop-i : goal.invariant-respan_trees-loop-i
invariant-respan_trees-loop-i l =
    l.trees ≡ map (tree_at l.span) (take l.i l.initial.trees) ++ drop l.i l.initial.trees
