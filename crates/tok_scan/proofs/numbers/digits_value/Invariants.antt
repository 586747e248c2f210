use Rattle.std.proofs.Common.{◌≡◌, ◌^◌, true, nat_lt, drop}
use Rattle.tok_scan.specs.Escapes.{digits_value}
use Rattle.tok_scan.proofs.numbers.digits_value.Given as goal

abbrev pub invariant-loop-c : goal.invariant-loop-c
invariant-loop-c l = record {
  same : digits_value l.base l.value (drop l.c-index l.digits) ≡ digits_value l.base 0 l.digits;
  fits : nat_lt l.value (2 ^ 128) ≡ true;
}
