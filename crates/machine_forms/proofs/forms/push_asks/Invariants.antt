use Rattle.std.proofs.Common.{◌≡◌, ◌++◌, drop, flat_map, map}
use Rattle.machine_forms.specs.Asks.{seen}
use Rattle.machine_forms.specs.Forms.{generated_ask}
use Rattle.machine_forms.proofs.forms.push_asks.Given as goal

abbrev pub invariant-loop-ask : goal.invariant-loop-ask
invariant-loop-ask l = l.initial.places ++ flat_map generated_ask (map seen l.asks) ≡ l.places ++ flat_map generated_ask (map seen (drop l.ask-index l.asks))
