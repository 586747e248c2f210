use Rattle.run_accepted.proofs.RepeatLemmas.{SoFar}
use Rattle.run_accepted.proofs.repeated.repeated_derives.Given as goal

abbrev pub invariant-loop-it : goal.invariant-loop-it
invariant-loop-it l = SoFar l.seen l.repeated l.derives l.it-index
