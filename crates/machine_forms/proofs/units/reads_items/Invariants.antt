use Rattle.std.proofs.Common.{◌≡◌, map, drop}
use Rattle.std.specs.Borrow.{Bor}
use Rattle.std.specs.List.{list_any}
use Rattle.codegen_program.specs.declared.program.«Unit».{«Unit» as Unit'}
use Rattle.codegen_program.specs.Traits.{is_from_meta}
use Rattle.machine_forms.proofs.units.reads_items.Given as goal

abbrev pub invariant-loop-unit : goal.invariant-loop-unit
invariant-loop-unit l =
    list_any (λ (unit : Unit'). is_from_meta unit.derive) (map (λ (unit : Bor Unit'). unit.now) (drop l.unit-index l.units))
    ≡ list_any (λ (unit : Unit'). is_from_meta unit.derive) (map (λ (unit : Bor Unit'). unit.now) l.units)
