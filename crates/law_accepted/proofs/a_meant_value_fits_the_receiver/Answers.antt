use Rattle.law_accepted.proofs.Receiver.{accepted_fits}
use Rattle.law_accepted.proofs.a_meant_value_fits_the_receiver.Goals as goal

pub returns : goal.returns
returns c = accepted_fits
