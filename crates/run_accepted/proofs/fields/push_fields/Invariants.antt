use Rattle.std.proofs.Common.{◌≡◌, ◌++◌, drop, flat_map}
use Rattle.run_accepted.specs.Unbuilt.{field_places}
use Rattle.run_accepted.proofs.fields.push_fields.Given as goal

abbrev pub invariant-loop-field : goal.invariant-loop-field
invariant-loop-field l = l.spans ++ flat_map field_places (drop l.field-index l.fields) ≡ l.initial.spans ++ flat_map field_places l.fields
