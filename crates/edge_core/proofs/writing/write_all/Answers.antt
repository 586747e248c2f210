use Rattle.std.proofs.Common.{length-drop, arith, add-zero}
use Rattle.edge_core.specs.Sink.{none}
use Rattle.edge_core.proofs.Told.{Takes-nil, Takes-more}
use Rattle.edge_core.proofs.Pieces.{take-drop}
use Rattle.edge_core.proofs.Runs.{Writes-more}
use Rattle.edge_core.proofs.writing.write_all.Goals as goal

pub loop-sent-init : goal.loop-sent-init
loop-sent-init g c = record {
  within = omega arith;
  taken = Takes-nil _ _;
  never_falls = omega arith;
  writes = none _;
}

pub loop-sent-preserved : goal.loop-sent-preserved
loop-sent-preserved g c = record {
  within = omega (arith, rw take-drop at c.in-Ok.ensures.within, length-drop c.loop-sent.sent c.args.bytes.now);
  taken = Takes-more _ _ _ _ c.loop-sent.sent c.in-Ok.count c.args.bytes.now _ (take-drop c.loop-sent.sent c.args.bytes.now) c.loop-sent.invariant.taken c.in-Ok.ensures.taken;
  never_falls = omega (arith, c.in-Ok.ensures.never_falls);
  writes = Writes-more _ _ _ _ _ _ _ _ (take-drop c.loop-sent.sent c.args.bytes.now) c.loop-sent.invariant.writes c.in-Ok.ensures.gives;
}

pub returns-in-Err-clause-writes_sent : goal.returns-in-Err-clause-writes_sent
returns-in-Err-clause-writes_sent g c =
    rw add-zero at (Writes-more _ _ _ _ _ _ _ _ (take-drop c.loop-sent.sent c.args.bytes.now) c.loop-sent.invariant.writes c.in-Err.ensures.gives)
