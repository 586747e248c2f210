use Rattle.std.proofs.Common.{◌≡◌, ℕ, ◌<◌, length, take, get_or, vec_len}
use Rattle.std.specs.Vec.{vec_capacity}
use Rattle.tok_core.proofs.reading.characters_of.Given as goal

abbrev pub invariant-loop-byte : goal.invariant-loop-byte
invariant-loop-byte l = record {
  same : l.plain.items ≡ take l.byte-index l.byte-items;
  count : vec_len l.plain ≡ l.byte-index;
  room : vec_capacity l.plain ≡ length l.byte-items;
  plain : (k : ℕ) → k < l.byte-index → get_or l.byte-items k 0 < 128;
}
