use Rattle.std.proofs.Common.{◌≡◌}
use Rattle.std.specs.Str.Iter.{split_inclusive_text, split_inclusive_pattern}
use Rattle.run_parts.specs.Parts.{line_feed}
use Rattle.run_parts.proofs.Scan.{HasPassed}
use Rattle.run_parts.proofs.split_at_divider.Given as goal

abbrev pub invariant-loop-line : goal.invariant-loop-line
invariant-loop-line l =
    (split_inclusive_pattern l.line-iterator ≡ line_feed) × HasPassed l.text l.start (split_inclusive_text l.line-iterator)
