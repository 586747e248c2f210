use Rattle.law_machine.proofs.Runs.{units_can_be_run}
use Rattle.law_machine.proofs.laws.a_unit_can_be_run.Goals as goal

pub returns : goal.returns
returns c = units_can_be_run
