use Rattle.std.proofs.Common.{[], arith}
use Rattle.tok_core.proofs.Nesting.{length-open_over}
use Rattle.tok_core.proofs.nest.Nest.depth.Goals as goal

pub returns : goal.returns
returns c = omega (arith, length-open_over [] c.args.self.now.frames, c.len.ensures)
