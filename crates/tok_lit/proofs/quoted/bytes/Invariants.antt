use Rattle.std.proofs.Common.{◌≡◌, map, take}
use Rattle.tok_lit.specs.Reading.{or_zero}
use Rattle.tok_lit.proofs.quoted.bytes.Given as goal

abbrev pub invariant-loop-c : goal.invariant-loop-c
invariant-loop-c l = l.bytes ≡ map or_zero (take l.c-index l.characters)
