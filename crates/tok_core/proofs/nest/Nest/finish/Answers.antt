use Rattle.std.proofs.Common.{[], refl, arith}
use Rattle.std.proofs.lemmas.Grind.{common_steps}
use Rattle.tok_core.proofs.Nesting.{length-open_over}
use Rattle.tok_core.proofs.nest.Nest.finish.Goals as goal

pub returns-clause-err : goal.returns-clause-err
returns-clause-err c = (refl, let e = length-open_over [] c.args.self.frames in grind (arith, common_steps))
