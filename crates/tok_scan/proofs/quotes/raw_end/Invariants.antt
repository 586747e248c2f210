use Rattle.std.proofs.Common.{◌≡◌, ◌-◌, ◌+◌, ◌≤◌, length, drop}
use Rattle.tok_scan.specs.Scan.{raw_end}
use Rattle.tok_scan.proofs.quotes.raw_end.Given as goal

abbrev pub invariant-loop-i : goal.invariant-loop-i
invariant-loop-i l = record {
  same : raw_end l.byte l.hashes l.i (drop l.i l.text) ≡ raw_end l.byte l.hashes (l.hashes + 1) (drop (l.hashes + 1) l.text);
  within : l.i ≤ length l.text;
}

abbrev pub decreases-loop-i : goal.decreases-loop-i
decreases-loop-i l = length l.text - l.i
