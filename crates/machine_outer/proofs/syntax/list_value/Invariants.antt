use Rattle.std.proofs.Common.{◌≡◌, map, take}
use Rattle.machine_leaf.specs.Values.{syntax}
use Rattle.machine_outer.proofs.syntax.list_value.Given as goal

abbrev pub invariant-loop-piece : goal.invariant-loop-piece
invariant-loop-piece g l = l.values ≡ map (syntax g.T.ToTokens.printing) (take l.piece-index l.pieces)
