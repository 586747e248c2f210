use Rattle.std.proofs.Common.{◌≡◌, ◌++◌, drop, flat_map, map}
use Rattle.std.specs.Borrow.{Bor}
use Rattle.codegen_program.specs.declared.program.«Unit».{«Unit» as Unit'}
use Rattle.machine_callables.specs.Callables.{unoffered_unit}
use Rattle.machine_callables.proofs.callables.Callables.push_units.Given as goal

abbrev pub invariant-loop-unit : goal.invariant-loop-unit
invariant-loop-unit g l =
    l.initial.places ++ flat_map (unoffered_unit (g.H.Host.says l.self.host.now) l.self.program.now l.decl) (map (λ (unit : Bor Unit'). unit.now) l.units)
    ≡ l.places ++ flat_map (unoffered_unit (g.H.Host.says l.self.host.now) l.self.program.now l.decl) (map (λ (unit : Bor Unit'). unit.now) (drop l.unit-index l.units))
