use Rattle.std.proofs.Common.{◌≡◌, ◌++◌, drop, map}
use Rattle.machine_forms.specs.Places.{places_from}
use Rattle.machine_fields.specs.Slots.{seen_reading}
use Rattle.machine_fit.specs.Types.{unfit_field}
use Rattle.machine_fit.proofs.checker.Checker.push_fields.Given as goal

abbrev pub invariant-loop-number : goal.invariant-loop-number
invariant-loop-number g l =
    l.initial.places ++ places_from (unfit_field (g.H.Host.says l.self.host.now) l.self.program.now l.here (map seen_reading l.readings) l.variant) 0 l.fields
    ≡ l.places ++ places_from (unfit_field (g.H.Host.says l.self.host.now) l.self.program.now l.here (map seen_reading l.readings) l.variant) l.number (drop l.number l.fields)
