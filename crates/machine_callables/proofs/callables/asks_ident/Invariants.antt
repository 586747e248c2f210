use Rattle.std.proofs.Common.{◌≡◌, map, drop}
use Rattle.std.specs.List.{list_any}
use Rattle.machine_forms.specs.Asks.{is_from_ident, seen}
use Rattle.machine_callables.proofs.callables.asks_ident.Given as goal

abbrev pub invariant-loop-ask : goal.invariant-loop-ask
invariant-loop-ask l = list_any is_from_ident (map seen (drop l.ask-index l.asks)) ≡ list_any is_from_ident (map seen l.asks)
