use Rattle.std.proofs.Common.{take}
use Rattle.util_table.specs.Places.{ArePlaces}
use Rattle.util_table.proofs.places.places_of.Given as goal

abbrev pub invariant-loop-at : goal.invariant-loop-at
invariant-loop-at l = ArePlaces l.places (take l.at l.rows)
