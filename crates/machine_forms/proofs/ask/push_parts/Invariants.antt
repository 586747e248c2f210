use Rattle.std.proofs.Common.{◌≡◌, ◌++◌, map, drop}
use Rattle.machine_forms.specs.Asks.{Part, seen}
use Rattle.machine_forms.proofs.ask.push_parts.Given as goal

abbrev pub invariant-loop-it : goal.invariant-loop-it
invariant-loop-it l = map seen l.initial.asks ++ map Part l.forwarded ≡ map seen l.asks ++ map Part (drop l.it-index l.forwarded)
