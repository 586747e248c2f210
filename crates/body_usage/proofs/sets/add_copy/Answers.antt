use Rattle.body_usage.proofs.Selected.{set-with}
use Rattle.body_usage.proofs.sets.add_copy.Goals as goal

pub returns : goal.returns
returns g c = set-with g.met.T.Eq.laws c.args.name.now _ _ _ _ c.in_ok-copy.ensures c.in_ok-insert.ensures.updates.0 c.in_ok-insert.ensures.keys
