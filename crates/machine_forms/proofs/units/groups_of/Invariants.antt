use Rattle.std.proofs.Common.{length, take}
use Rattle.machine_forms.specs.Units.{AreGroups}
use Rattle.machine_forms.proofs.units.groups_of.Given as goal

abbrev pub invariant-loop-unit : goal.invariant-loop-unit
invariant-loop-unit l = AreGroups (take l.unit-index l.unit-items) (length l.program.decls) l.groups
