use Rattle.std.proofs.Common.{◌≡◌, ◌++◌, Bor, map, drop}
use Rattle.node_core.specs.declared.data.Field.{Field}
use Rattle.machine_fields.proofs.fields.push_fields.Given as goal

abbrev pub invariant-loop-field : goal.invariant-loop-field
invariant-loop-field l =
    map (λ (field : Bor Field). field.now) l.initial.fields ++ l.more ≡ map (λ (field : Bor Field). field.now) l.fields ++ drop l.field-index l.more
