use Rattle.std.proofs.Common.{◌≡◌, length}
use Rattle.std.specs.Slice.Iter.{iter_rest}
use Rattle.meta_core.specs.PathLists.{common}
use Rattle.meta_core.proofs.path_list.IntersectionIterator.next.Given as goal

abbrev pub decreases-loop-path : goal.decreases-loop-path
decreases-loop-path l = length (iter_rest l.self-inside.paths)

abbrev pub invariant-loop-path : goal.invariant-loop-path
invariant-loop-path l =
    common (iter_rest l.initial.self-inside.paths) l.initial.self-inside.others.now ≡ common (iter_rest l.self-inside.paths) l.self-inside.others.now
