use Rattle.std.proofs.Common.{◌≡◌, ◌++◌, drop, flat_map}
use Rattle.options_forms.proofs.members.push_fields.Given as goal
use Rattle.options_forms.specs.Forms.{field_forms}

abbrev pub invariant-loop-field : goal.invariant-loop-field
invariant-loop-field l = l.places ++ flat_map field_forms (drop l.field-index l.fields) ≡ l.initial.places ++ flat_map field_forms l.fields
