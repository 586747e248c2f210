use Rattle.std.proofs.Common.{List, ◌++◌, drop, map}
use Rattle.run_accepted.specs.Pairs.{Pair, pair}
use Rattle.run_accepted.specs.Steps.{AreUnits}
use Rattle.run_accepted.proofs.PairLemmas.{Goes}
use Rattle.run_accepted.proofs.program.push_units.Given as goal

abbrev pub invariant-loop-it : goal.invariant-loop-it
invariant-loop-it l =
    (before : List Pair) → AreUnits l.table before l.initial.units
    → Goes l.table (before ++ map (λ it. pair l.number l.decl it.derive) l.it-items) (map (λ it. pair l.number l.decl it.derive) (drop l.it-index l.it-items)) l.units
