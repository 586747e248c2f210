use Rattle.std.proofs.Common.{◌≡◌, ◌++◌, map, drop}
use Rattle.machine_forms.specs.Asks.{Member, seen}
use Rattle.machine_forms.proofs.ask.push_members.Given as goal

abbrev pub invariant-loop-init : goal.invariant-loop-init
invariant-loop-init l = map seen l.initial.asks ++ map Member l.inits ≡ map seen l.asks ++ map Member (drop l.init-index l.inits)
