use Rattle.std.proofs.Common.{◌≡◌, drop}
use Rattle.machine_read.specs.Receivers as spec
use Rattle.machine_state.proofs.receiver.type_among.Given as goal

abbrev pub invariant-loop-field : goal.invariant-loop-field
invariant-loop-field l = spec.type_among (drop l.field-index l.fields) l.name ≡ spec.type_among l.fields l.name
