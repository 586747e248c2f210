use Rattle.std.proofs.Common.{sym}
use Rattle.body_usage.proofs.Selected.{extended-by-member}
use Rattle.body_usage.proofs.sets.add_member.Goals as goal

pub returns-in_ok-insert : goal.returns-in_ok-insert
returns-in_ok-insert g c =
    extended-by-member g.met.T.Eq.laws c.args.set.now c.args.name.now _ _ _ _ c.in-Some.ensures.same_key (sym c.in-Some.ensures.key) (sym c.in-Some.ensures.variant) c.in_ok-insert.ensures.updates.0 c.in_ok-insert.ensures.keys
