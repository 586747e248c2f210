use Rattle.std.proofs.Common.{◌++◌, List}
use Rattle.std.specs.Vec.Iter.{into_iter_items}
use Rattle.body_core.specs.Calls.{AnswersEach}
use Rattle.body_core.proofs.ast.members.map_members.Given as goal

abbrev pub invariant-loop-member : goal.invariant-loop-member
invariant-loop-member g l =
    goal.F-IsAlwaysCallable g l.map
    × (goal.iterator-loop-member g).can_next l.member-iterator
    × (goal.iterator-loop-member g).is_finite l.member-iterator
    × ((more : List _) (last : _) → AnswersEach (goal.F-step g) l.map (into_iter_items l.member-iterator) more last
    → AnswersEach (goal.F-step g) l.fn.map l.fn.members (l.answers ++ more) last)
