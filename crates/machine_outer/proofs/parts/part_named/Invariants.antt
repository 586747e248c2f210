use Rattle.std.proofs.Common.{◌≡◌, drop}
use Rattle.machine_steps.specs.Building as spec
use Rattle.machine_outer.proofs.parts.part_named.Given as goal

abbrev pub invariant-loop-it : goal.invariant-loop-it
invariant-loop-it l = spec.part_named (drop l.it-index l.forwarded) l.name ≡ spec.part_named l.forwarded l.name
