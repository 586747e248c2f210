use Rattle.std.proofs.Common.{◌≡◌, ◌++◌, drop, take}
use Rattle.machine_forms.specs.Names.{Knows, field_names, has_name, repeated_field, repeated_fields}
use Rattle.machine_forms.specs.Places.{places_from}
use Rattle.machine_forms.proofs.names.push_fields.Given as goal

abbrev pub invariant-loop-number : goal.invariant-loop-number
invariant-loop-number l = record {
  known : Knows l.known (field_names (take l.number l.fields));
  pushed : l.initial.places ++ repeated_fields l.fields
      ≡ l.places ++ places_from (λ number field. repeated_field (has_name (field_names (take number l.fields))) field.ident) l.number (drop l.number l.fields);
}
