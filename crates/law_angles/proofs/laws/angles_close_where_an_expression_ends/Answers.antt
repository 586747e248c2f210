use Rattle.law_angles.proofs.Within.{read-ends, run-ends}
use Rattle.law_angles.proofs.laws.angles_close_where_an_expression_ends.Goals as goal

pub returns-clause-read : goal.returns-clause-read
returns-clause-read c = read-ends

pub returns-clause-run : goal.returns-clause-run
returns-clause-run c = run-ends
