use Rattle.std.proofs.Common.{◌≡◌, ◌++◌, Bor, map, drop}
use Rattle.codegen_program.specs.declared.forwarded.Forwarded.{Forwarded}
use Rattle.machine_fields.specs.Members.{members_at}
use Rattle.machine_fields.proofs.members.members_at.Given as goal

abbrev pub invariant-loop-field : goal.invariant-loop-field
invariant-loop-field l =
    members_at l.derive (map (λ (it : Bor Forwarded). it.now) l.parts) 0 l.fields
    ≡ l.members ++ members_at l.derive (map (λ (it : Bor Forwarded). it.now) l.parts) l.slot (drop l.field-index l.fields)
