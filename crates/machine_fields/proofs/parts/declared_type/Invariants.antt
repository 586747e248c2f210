use Rattle.std.proofs.Common.{◌≡◌, drop}
use Rattle.machine_forms.specs.Receivers.{type_among}
use Rattle.machine_fields.proofs.parts.declared_type.Given as goal

abbrev pub invariant-loop-field : goal.invariant-loop-field
invariant-loop-field l = type_among (drop l.field-index l.fields) l.name ≡ type_among l.fields l.name
