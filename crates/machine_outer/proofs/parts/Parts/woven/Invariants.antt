use Rattle.std.proofs.Common.{◌≡◌, drop}
use Rattle.machine_steps.specs.Building as spec
use Rattle.machine_outer.specs.Seen.{part_in}
use Rattle.machine_outer.specs.Weaving.{still_woven}
use Rattle.machine_outer.proofs.parts.Parts.woven.Given as goal

abbrev pub invariant-loop-field : goal.invariant-loop-field
invariant-loop-field l =
    still_woven l.weaving (part_in l.self) (drop l.field-index l.fields) ≡ spec.woven (part_in l.self) l.fields l.fn.members
