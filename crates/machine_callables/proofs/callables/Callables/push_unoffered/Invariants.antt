use Rattle.std.proofs.Common.{◌≡◌, ◌++◌, drop, flat_map, map}
use Rattle.std.specs.Borrow.{Bor}
use Rattle.node_core.specs.declared.data.Field.{Field}
use Rattle.machine_forms.specs.Asks.{seen}
use Rattle.machine_callables.specs.Callables.{unoffered_ask}
use Rattle.machine_callables.proofs.callables.Callables.push_unoffered.Given as goal

abbrev pub invariant-loop-ask : goal.invariant-loop-ask
invariant-loop-ask g l =
    l.initial.places
    ++ flat_map (unoffered_ask (g.H.Host.says l.self.host.now) l.self.program.now l.asker.derive l.asker.ty.now l.asker.body.now (map (λ (field : Bor Field). field.now) l.asker.fields.now))
    (map seen l.asks)
    ≡ l.places
    ++ flat_map (unoffered_ask (g.H.Host.says l.self.host.now) l.self.program.now l.asker.derive l.asker.ty.now l.asker.body.now (map (λ (field : Bor Field). field.now) l.asker.fields.now))
    (map seen (drop l.ask-index l.asks))
