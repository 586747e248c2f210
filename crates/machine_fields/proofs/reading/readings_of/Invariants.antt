use Rattle.std.proofs.Common.{◌≡◌, ◌++◌, map, drop}
use Rattle.std.specs.Borrow.{Bor}
use Rattle.codegen_program.specs.declared.program.«Unit».{«Unit» as Unit'}
use Rattle.machine_fields.specs.FieldAsks.{asks_by}
use Rattle.machine_fields.specs.Slots.{seen_reading}
use Rattle.machine_fields.proofs.reading.readings_of.Given as goal

abbrev pub invariant-loop-unit : goal.invariant-loop-unit
invariant-loop-unit l =
    map (asks_by l.body) (map (λ (unit : Bor Unit'). unit.now) l.units)
    ≡ map seen_reading l.readings ++ map (asks_by l.body) (map (λ (unit : Bor Unit'). unit.now) (drop l.unit-index l.units))
