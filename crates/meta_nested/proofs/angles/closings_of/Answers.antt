use Rattle.std.proofs.Common.{arith, subst}
use Rattle.meta_nested.proofs.Tables.{TellsUpTo, reached-end, reached-more, tells-of}
use Rattle.meta_nested.proofs.angles.closings_of.Goals as goal

pub loop-left-init : goal.loop-left-init
loop-left-init c = rw (c.new.ensures, c.in_ok-table.ensures) (reached-end c.args.trees.now)

pub loop-left-preserved : goal.loop-left-preserved
loop-left-preserved c =
    rw c.in_ok-push.ensures.ok
    (reached-more c.args.trees.now c.loop-left.left c.role_at.result c.loop-left.row c.step.new.self c.loop-left.table c.loop-left-test.true c.role_at.ensures c.in_ok-step.ensures c.loop-left.invariant)

pub returns : goal.returns
returns c = tells-of c.loop-left.table c.args.trees.now (subst (TellsUpTo c.loop-left.table c.args.trees.now) (omega (arith, c.loop-left-test.false, c.loop-left.auto.left-end)) c.loop-left.invariant.places)
