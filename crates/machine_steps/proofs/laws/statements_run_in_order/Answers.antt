use Rattle.machine_steps.proofs.Statements.{run_append}
use Rattle.machine_steps.proofs.laws.statements_run_in_order.Goals as goal

pub returns : goal.returns
returns c = run_append
