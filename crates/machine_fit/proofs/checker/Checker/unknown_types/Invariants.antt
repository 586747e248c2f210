use Rattle.std.proofs.Common.{◌≡◌, ◌++◌, drop}
use Rattle.machine_forms.specs.Places.{places_from}
use Rattle.machine_forms.specs.Units.{units_of}
use Rattle.machine_fit.specs.Types.{unknown_types, unknown_types_in}
use Rattle.machine_fit.proofs.checker.Checker.unknown_types.Given as goal

abbrev pub invariant-loop-number : goal.invariant-loop-number
invariant-loop-number g l =
    unknown_types (g.H.Host.says l.self.host.now) l.self.program.now
    ≡ l.places ++ places_from (λ number decl. unknown_types_in (g.H.Host.says l.self.host.now) l.self.program.now (units_of l.self.program.now.units number) number decl) l.number (drop l.number l.decls)
