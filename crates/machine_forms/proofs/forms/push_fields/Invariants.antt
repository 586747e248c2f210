use Rattle.std.proofs.Common.{◌≡◌, ◌++◌, drop, flat_map}
use Rattle.machine_forms.specs.Forms.{generated_field}
use Rattle.machine_forms.proofs.forms.push_fields.Given as goal

abbrev pub invariant-loop-field : goal.invariant-loop-field
invariant-loop-field l = l.initial.places ++ flat_map generated_field l.fields ≡ l.places ++ flat_map generated_field (drop l.field-index l.fields)
