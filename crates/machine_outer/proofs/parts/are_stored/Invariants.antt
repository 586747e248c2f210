use Rattle.std.proofs.Common.{◌≡◌, drop}
use Rattle.machine_steps.specs.Building as spec
use Rattle.machine_outer.specs.Seen.{aside_of}
use Rattle.machine_outer.proofs.parts.are_stored.Given as goal

abbrev pub invariant-loop-it : goal.invariant-loop-it
invariant-loop-it l =
    spec.are_stored (aside_of l.aside) (drop l.it-index l.forwarded) ≡ spec.are_stored (aside_of l.aside) l.forwarded
