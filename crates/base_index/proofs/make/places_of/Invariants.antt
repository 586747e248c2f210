use Rattle.std.proofs.Common.{◌≡◌, take, map}
use Rattle.base_index.proofs.make.places_of.Given as goal

abbrev pub invariant-loop-pair : goal.invariant-loop-pair
invariant-loop-pair l = l.places ≡ map (λ it. it.1) (take l.pair-index l.pairs)
