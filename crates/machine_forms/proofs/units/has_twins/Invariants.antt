use Rattle.std.proofs.Common.{◌≡◌, map, drop}
use Rattle.codegen_program.specs.declared.program.«Unit».{«Unit» as Unit'}
use Rattle.std.specs.Borrow.{Bor}
use Rattle.machine_forms.specs.Units.{has_twins}
use Rattle.machine_forms.proofs.units.has_twins.Given as goal

abbrev pub invariant-loop-at : goal.invariant-loop-at
invariant-loop-at l = has_twins (map (λ (unit : Bor Unit'). unit.now) (drop l.at l.units)) ≡ has_twins (map (λ (unit : Bor Unit'). unit.now) l.units)
