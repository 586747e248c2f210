use Rattle.std.proofs.Common.{◌≡◌, ◌++◌, Bor, get_or, map, drop}
use Rattle.node_core.specs.Bodies.{field_list}
use Rattle.node_core.specs.declared.data.Field.{Field}
use Rattle.machine_forms.specs.Places.{places_from}
use Rattle.machine_fields.specs.Fields.{held_by, held_fields}
use Rattle.machine_fields.specs.declared.fields.FieldsAt.TheVariants as fields_at
use Rattle.machine_fields.proofs.fields.push_held.Given as goal

abbrev pub invariant-loop-number : goal.invariant-loop-number
invariant-loop-number l =
    map (λ (field : Bor Field). field.now) l.initial.fields ++ held_fields l.places l.variants
    ≡ map (λ (field : Bor Field). field.now) l.fields
    ++ places_from (λ number variant. held_by (get_or l.places number fields_at.Nowhere) (field_list variant.fields)) l.number (drop l.number l.variants)
