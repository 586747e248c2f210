use Rattle.law_given.proofs.Runs.{fit_can_run}
use Rattle.law_given.proofs.laws.a_fit_program_can_be_run.Goals as goal

pub returns : goal.returns
returns c = fit_can_run
