use Rattle.std.proofs.Common.{◌≡◌, ◌++◌, Bor, map, drop}
use Rattle.codegen_program.specs.declared.forwarded.Forwarded.{Forwarded}
use Rattle.machine_forms.specs.Asks.{seen}
use Rattle.machine_fields.specs.Parts.{parts_asked}
use Rattle.machine_fields.proofs.parts.parts_asked.Given as goal

abbrev pub invariant-loop-ask : goal.invariant-loop-ask
invariant-loop-ask l = parts_asked (map seen l.asks) ≡ map (λ (it : Bor Forwarded). it.now) l.parts ++ parts_asked (map seen (drop l.ask-index l.asks))
