use Rattle.std.proofs.Common.{◌≡◌, ◌++◌, map, drop}
use Rattle.machine_forms.specs.Asks.{Read, seen}
use Rattle.machine_forms.proofs.ask.push_arms.Given as goal

abbrev pub invariant-loop-arm : goal.invariant-loop-arm
invariant-loop-arm l = map seen l.initial.asks ++ map Read l.arms ≡ map seen l.asks ++ map Read (drop l.arm-index l.arms)
