use Rattle.std.proofs.Common.{◌≡◌, ◌++◌, Bor, map, drop}
use Rattle.node_core.specs.declared.data.Field.{Field}
use Rattle.codegen_program.specs.declared.forwarded.Forwarded.{Forwarded}
use Rattle.machine_fields.specs.Parts.{without_parts}
use Rattle.machine_fields.proofs.fields.push_without_parts.Given as goal

abbrev pub invariant-loop-field : goal.invariant-loop-field
invariant-loop-field l =
    map (λ (field : Bor Field). field.now) l.initial.fields ++ without_parts (map (λ (it : Bor Forwarded). it.now) l.parts) l.more
    ≡ map (λ (field : Bor Field). field.now) l.fields ++ without_parts (map (λ (it : Bor Forwarded). it.now) l.parts) (drop l.field-index l.more)
