use Rattle.std.proofs.Common.{◌≡◌, ◌≤◌, length, drop, min, reverse}
use Rattle.std.specs.List.{prefix_len}
use Rattle.tok_scan.specs.Closings.{closing_of, closings_of}
use Rattle.tok_scan.specs.Strings.{is_hash}
use Rattle.tok_scan.proofs.ends.closings.Given as goal

abbrev pub invariant-loop-i : goal.invariant-loop-i
invariant-loop-i l = record {
  all : reverse l.closings.items ≡ closings_of (drop l.i l.text);
  last : l.closing ≡ closing_of (drop l.i l.text);
  run : l.hashes ≡ min (prefix_len is_hash (drop l.i l.text)) 255;
  within : l.i ≤ length l.text;
}

abbrev pub decreases-loop-i : goal.decreases-loop-i
decreases-loop-i l = l.i
