use Rattle.std.proofs.Common.{◌≡◌, ◌++◌, drop}
use Rattle.machine_forms.specs.Places.{places_from}
use Rattle.machine_forms.specs.Units.{units_of}
use Rattle.machine_callables.specs.Callables.{unknown_callables, unknown_callables_in}
use Rattle.machine_callables.proofs.callables.Callables.unknown_callables.Given as goal

abbrev pub invariant-loop-number : goal.invariant-loop-number
invariant-loop-number g l =
    unknown_callables (g.H.Host.says l.self.host.now) l.self.program.now
    ≡ l.places ++ places_from (λ number decl. unknown_callables_in (g.H.Host.says l.self.host.now) l.self.program.now (units_of l.self.program.now.units number) decl) l.number (drop l.number l.decls)
