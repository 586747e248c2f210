use Rattle.std.proofs.Common.{◌≡◌, ◌++◌, drop, take}
use Rattle.node_core.specs.Bodies.{field_list}
use Rattle.machine_forms.specs.Names.{Knows, has_name, repeated, repeated_fields, repeated_variants, variant_names}
use Rattle.machine_forms.specs.Places.{places_from}
use Rattle.machine_forms.proofs.names.push_variants.Given as goal

abbrev pub invariant-loop-number : goal.invariant-loop-number
invariant-loop-number l = record {
  known : Knows l.known (variant_names (take l.number l.variants));
  pushed : l.initial.places ++ repeated_variants l.variants
      ≡ l.places ++ places_from (λ number variant. repeated (has_name (variant_names (take number l.variants))) variant.ident ++ repeated_fields (field_list variant.fields)) l.number (drop l.number l.variants);
}
