use Rattle.law_fits.proofs.Declared.{declared_fits}
use Rattle.law_fits.proofs.a_meant_value_fits.Goals as goal

pub returns : goal.returns
returns c = declared_fits
