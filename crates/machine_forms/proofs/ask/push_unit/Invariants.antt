use Rattle.std.proofs.Common.{◌≡◌, ◌++◌, map, drop}
use Rattle.machine_forms.specs.Asks.{seen, func_asks, joined, unit_asks}
use Rattle.machine_forms.proofs.ask.push_unit.Given as goal

abbrev pub invariant-loop-func : goal.invariant-loop-func
invariant-loop-func l = map seen l.initial.asks ++ unit_asks l.unit ≡ map seen l.asks ++ joined (map func_asks (drop l.func-index l.func-items))
