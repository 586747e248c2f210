use Rattle.std.proofs.Common.{◌≡◌, ◌+◌, ◌-◌, ◌≤◌, true, length, drop, vec_len}
use Rattle.std.specs.Str.{encode_utf8_all, IsUtf8}
use Rattle.tok_scan.specs.Closings.{AreClosings}
use Rattle.tok_core.proofs.Before.{Before}
use Rattle.tok_core.proofs.Bytes.{IsPlain}
use Rattle.tok_core.proofs.reading.read.Given as goal

abbrev pub invariant-loop-start : goal.invariant-loop-start
invariant-loop-start l = record {
  before : Before l.source l.fn.characters.items (drop l.start l.unread.items) l.at l.nest;
  closed : AreClosings (drop l.passed l.known.items) (drop l.start l.unread.items);
  within : l.start ≤ vec_len l.unread;
  passed : l.passed + length (drop l.start l.unread.items) ≤ length l.fn.characters.items;
  bytes : encode_utf8_all (drop l.start l.unread.items) ≡ l.left;
  utf8 : IsUtf8 l.left;
  plain : l.plain ≡ true → IsPlain (drop l.start l.unread.items);
}

abbrev pub decreases-loop-start : goal.decreases-loop-start
decreases-loop-start l = vec_len l.unread - l.start
