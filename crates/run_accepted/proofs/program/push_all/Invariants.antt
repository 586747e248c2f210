use Rattle.std.proofs.Common.{List, ◌++◌, drop}
use Rattle.run_accepted.specs.Pairs.{Pair, pairs_from}
use Rattle.run_accepted.specs.Steps.{AreUnits}
use Rattle.run_accepted.proofs.PairLemmas.{Goes}
use Rattle.run_accepted.proofs.program.push_all.Given as goal

abbrev pub invariant-loop-number : goal.invariant-loop-number
invariant-loop-number l =
    (before : List Pair) → AreUnits l.table before l.initial.units
    → Goes l.table (before ++ pairs_from 0 l.decls) (pairs_from l.number (drop l.number l.decls)) l.units
