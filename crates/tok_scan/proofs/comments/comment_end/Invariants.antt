use Rattle.std.proofs.Common.{◌≡◌, ◌-◌, ◌<◌, ◌≤◌, length, drop}
use Rattle.tok_scan.specs.Comments.{comment_end}
use Rattle.tok_scan.proofs.comments.comment_end.Given as goal

abbrev pub invariant-loop-i : goal.invariant-loop-i
invariant-loop-i l = record {
  same : comment_end l.depth l.i (drop l.i l.text) ≡ comment_end 1 2 (drop 2 l.text);
  within : l.i ≤ length l.text;
  depth : l.depth < l.i;
  deep : 0 < l.depth;
  from : 2 ≤ l.i;
}

abbrev pub decreases-loop-i : goal.decreases-loop-i
decreases-loop-i l = length l.text - l.i
