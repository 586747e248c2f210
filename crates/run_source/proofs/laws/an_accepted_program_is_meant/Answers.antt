use Rattle.run_source.proofs.ReceiverLemmas.{accepted_is_meant}
use Rattle.run_source.proofs.laws.an_accepted_program_is_meant.Goals as goal

pub returns : goal.returns
returns c = accepted_is_meant
