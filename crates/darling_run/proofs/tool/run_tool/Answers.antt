use Rattle.darling_run.proofs.EndsLemmas.{Ends-from}
use Rattle.darling_run.proofs.tool.run_tool.Goals as goal

pub returns : goal.returns
returns g c = Ends-from _ _ _ _ _ c.answer-answer.result c.answer-answer.ensures c.write_answer.ensures
