use Rattle.std.proofs.Common.{◌≡◌, map, drop}
use Rattle.codegen_program.specs.declared.program.«Unit».{«Unit» as Unit'}
use Rattle.std.specs.Borrow.{Bor}
use Rattle.machine_forms.specs.Units.{has_derive}
use Rattle.machine_forms.proofs.units.has_derive.Given as goal

abbrev pub invariant-loop-unit : goal.invariant-loop-unit
invariant-loop-unit l = has_derive l.derive (map (λ (unit : Bor Unit'). unit.now) (drop l.unit-index l.units)) ≡ has_derive l.derive (map (λ (unit : Bor Unit'). unit.now) l.units)
