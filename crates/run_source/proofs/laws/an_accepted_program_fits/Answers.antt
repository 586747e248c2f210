use Rattle.run_source.proofs.FitLemmas.{accepted_fits}
use Rattle.run_source.proofs.laws.an_accepted_program_fits.Goals as goal

pub returns : goal.returns
returns c = accepted_fits
