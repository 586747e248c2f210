-- A program of which nothing stands first in the text, against running it, is fit.
use Rattle.law_options.specs.Unfitness.{refusals}
use Rattle.run_accepted.proofs.FitLemmas.{none_listed}
use Rattle.run_source.specs.Claims.{AcceptedFits}

-- what accepted declarations are compiled to is fit
pub accepted_fits : AcceptedFits
accepted_fits host rules decls program is = none_listed (refusals host program) is.fits
