use Rattle.std.proofs.Common.{◌≡◌, ◌++◌, drop}
use Rattle.machine_forms.specs.Forms.{unsupported, unsupported_in}
use Rattle.machine_forms.specs.Places.{places_from}
use Rattle.machine_forms.specs.Units.{units_of}
use Rattle.machine_forms.proofs.forms.unsupported_forms.Given as goal

abbrev pub invariant-loop-number : goal.invariant-loop-number
invariant-loop-number l =
    unsupported l.program ≡ l.places ++ places_from (λ number decl. unsupported_in (units_of l.program.units number) decl) l.number (drop l.number l.decls)
