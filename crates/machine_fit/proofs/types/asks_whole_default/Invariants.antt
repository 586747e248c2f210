use Rattle.std.proofs.Common.{◌≡◌, map, drop}
use Rattle.std.specs.List.{list_any}
use Rattle.machine_forms.specs.Asks.{is_whole_default, seen}
use Rattle.machine_fit.proofs.types.asks_whole_default.Given as goal

abbrev pub invariant-loop-ask : goal.invariant-loop-ask
invariant-loop-ask l = list_any is_whole_default (map seen (drop l.ask-index l.asks)) ≡ list_any is_whole_default (map seen l.asks)
