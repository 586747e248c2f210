use Rattle.std.proofs.Common.{◌≡◌, ◌++◌, drop}
use Rattle.machine_forms.specs.Units.{flags_from, item_flags}
use Rattle.machine_forms.proofs.units.item_flags.Given as goal

abbrev pub invariant-loop-number : goal.invariant-loop-number
invariant-loop-number l = item_flags l.program ≡ l.flags ++ flags_from l.program.units l.number (drop l.number l.program.decls)
