use Rattle.std.proofs.Common.{◌≡◌, ◌++◌, flat_map, take}
use Rattle.uses.specs.Faults.{error_in}
use Rattle.uses.proofs.faults.collect.Given as goal

abbrev pub invariant-loop-field : goal.invariant-loop-field
invariant-loop-field l = l.errors ≡ l.initial.errors ++ flat_map error_in (take l.field-index l.fields)
