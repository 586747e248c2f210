use Rattle.std.proofs.Common.{◌≡◌, drop, map}
use Rattle.std.specs.List.{list_all}
use Rattle.machine_fields.specs.Slots.{seen_reading}
use Rattle.machine_fit.specs.Types.{fits_unit}
use Rattle.machine_fit.proofs.checker.Checker.fits_readings.Given as goal

abbrev pub invariant-loop-reading : goal.invariant-loop-reading
invariant-loop-reading g l =
    list_all (fits_unit (g.H.Host.says l.self.host.now) l.self.program.now l.here l.variant l.number l.ty) (map seen_reading (drop l.reading-index l.readings))
    ≡ list_all (fits_unit (g.H.Host.says l.self.host.now) l.self.program.now l.here l.variant l.number l.ty) (map seen_reading l.readings)
