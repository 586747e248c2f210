use Rattle.std.proofs.Common.{◌≡◌, ◌++◌, drop, flat_map, map}
use Rattle.machine_forms.specs.Asks.{seen}
use Rattle.machine_fit.specs.Types.{unfit_ask}
use Rattle.machine_fit.proofs.checker.Checker.push_taken.Given as goal

abbrev pub invariant-loop-ask : goal.invariant-loop-ask
invariant-loop-ask g l =
    l.initial.places ++ flat_map (unfit_ask (g.H.Host.says l.self.host.now) l.self.program.now l.here) (map seen l.asks) ≡ l.places ++ flat_map (unfit_ask (g.H.Host.says l.self.host.now) l.self.program.now l.here) (map seen (drop l.ask-index l.asks))
