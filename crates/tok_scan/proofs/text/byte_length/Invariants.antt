use Rattle.std.proofs.Common.{◌≡◌, take, length}
use Rattle.std.specs.Str.{encode_utf8_all}
use Rattle.tok_scan.proofs.text.byte_length.Given as goal

abbrev pub invariant-loop-c : goal.invariant-loop-c
invariant-loop-c l = l.bytes ≡ length (encode_utf8_all (take l.c-index l.characters))
