use Rattle.meta_nested.proofs.Tables.{Reached}
use Rattle.meta_nested.proofs.angles.closings_of.Given as goal

abbrev pub invariant-loop-left : goal.invariant-loop-left
invariant-loop-left l = Reached l.trees l.left l.row l.table
