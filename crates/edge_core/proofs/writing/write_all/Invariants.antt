use Rattle.std.proofs.Common.{◌-◌, ◌≤◌, length, take}
use Rattle.edge_core.specs.Sink.{Takes, Writes}
use Rattle.edge_core.proofs.writing.write_all.Given as goal

abbrev pub invariant-loop-sent : goal.invariant-loop-sent
invariant-loop-sent g l = record {
  within : l.sent ≤ length l.bytes;
  taken : Takes g.K.Sink.may_fall_silent (g.K.Sink.taken l.initial.sink) (g.K.Sink.taken l.sink) (take l.sent l.bytes);
  never_falls : g.K.Sink.faults l.initial.sink ≤ g.K.Sink.faults l.sink;
  writes : Writes g.K.Sink.write_gives l.bytes l.initial.sink l.sent l.sink;
}

abbrev pub decreases-loop-sent : goal.decreases-loop-sent
decreases-loop-sent g l = length l.bytes - l.sent
