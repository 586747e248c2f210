use Rattle.std.proofs.Common.{◌≡◌, drop}
use Rattle.machine_fit.specs.Fits.{is_read_by}
use Rattle.machine_fit.proofs.readers.is_read_by.Given as goal

abbrev pub invariant-loop-unit : goal.invariant-loop-unit
invariant-loop-unit l = is_read_by (drop l.unit-index l.units) l.derive l.number ≡ is_read_by l.units l.derive l.number
