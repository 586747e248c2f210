use Rattle.std.proofs.Common.{◌≡◌, ◌++◌, map, drop}
use Rattle.codegen_program.specs.declared.program.«Unit».{«Unit» as Unit'}
use Rattle.std.specs.Borrow.{Bor}
use Rattle.machine_forms.specs.Asks.{seen}
use Rattle.machine_forms.specs.Units.{asks_of}
use Rattle.machine_forms.proofs.units.asks_of.Given as goal

abbrev pub invariant-loop-unit : goal.invariant-loop-unit
invariant-loop-unit l = asks_of (map (λ (unit : Bor Unit'). unit.now) l.units) ≡ map seen l.asks ++ asks_of (map (λ (unit : Bor Unit'). unit.now) (drop l.unit-index l.units))
