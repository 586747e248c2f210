use Rattle.std.proofs.Common.{◌≡◌, map, take}
use Rattle.machine_cells.specs.Values.{syntax}
use Rattle.machine_leaf.proofs.sets.entries_of.Given as goal

abbrev pub invariant-loop-name : goal.invariant-loop-name
invariant-loop-name g l =
    l.entries ≡ map (λ name. (g.T.KeyFromPath.text (g.T.KeyFromPath.seen name), syntax g.T.ToTokens.printing name)) (take l.name-index l.names)
