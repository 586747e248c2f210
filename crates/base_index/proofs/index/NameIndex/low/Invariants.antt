-- What the search keeps.
use Rattle.std.proofs.Common.{map}
use Rattle.base_index.proofs.Search.{Searches}
use Rattle.base_index.proofs.index.NameIndex.low.Given as goal

abbrev pub invariant-loop-size : goal.invariant-loop-size
invariant-loop-size g l = Searches l.self (map g.N.NameOf.name_of l.items) l.name l.low l.size l.steps l.initial.tally l.tally

abbrev pub decreases-loop-size : goal.decreases-loop-size
decreases-loop-size g l = l.size
