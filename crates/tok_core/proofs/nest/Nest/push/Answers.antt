use Rattle.tok_core.proofs.Nesting.{flat_nest-push}
use Rattle.tok_core.proofs.nest.Nest.push.Goals as goal

pub returns-clause-flat : goal.returns-clause-flat
returns-clause-flat c source = flat_nest-push source c.args.self.now.frames c.args.self.now.trees c.push.new.self c.args.tree c.in_ok-push.ensures.ok
