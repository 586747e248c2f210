use Rattle.std.proofs.Common.{◌≡◌, Bor, map, drop}
use Rattle.codegen_program.specs.declared.forwarded.Forwarded.{Forwarded}
use Rattle.machine_fields.specs.Parts.{part_of}
use Rattle.machine_fields.proofs.parts.part_of.Given as goal

abbrev pub invariant-loop-it : goal.invariant-loop-it
invariant-loop-it l =
    part_of (map (λ (it : Bor Forwarded). it.now) (drop l.it-index l.parts)) l.field ≡ part_of (map (λ (it : Bor Forwarded). it.now) l.parts) l.field
