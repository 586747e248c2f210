use Rattle.std.proofs.Common.{◌≡◌, ◌++◌, drop}
use Rattle.run_accepted.proofs.acceptance.push_all.Given as goal

abbrev pub invariant-loop-span : goal.invariant-loop-span
invariant-loop-span l = l.spans ++ drop l.span-index l.more ≡ l.initial.spans ++ l.more
