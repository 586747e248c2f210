use Rattle.std.proofs.Common.{◌≡◌, ◌-◌, ◌≤◌, length, drop}
use Rattle.tok_scan.specs.Scan.{string_end}
use Rattle.tok_scan.proofs.quotes.string_length.Given as goal

abbrev pub invariant-loop-i : goal.invariant-loop-i
invariant-loop-i l = record {
  same : string_end l.byte 0 l.i (drop l.i l.text) ≡ string_end l.byte 0 1 (drop 1 l.text);
  within : l.i ≤ length l.text;
  from : 1 ≤ l.i;
}

abbrev pub decreases-loop-i : goal.decreases-loop-i
decreases-loop-i l = length l.text - l.i
