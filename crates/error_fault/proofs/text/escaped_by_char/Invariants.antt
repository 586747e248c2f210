use Rattle.std.proofs.Common.{◌≡◌, flat_map}
use Rattle.error_fault.specs.FaultText.{escaped_char}
use Rattle.error_fault.proofs.text.escaped_by_char.Given as goal

abbrev pub invariant-loop-c : goal.invariant-loop-c
invariant-loop-c l = l.shown ≡ flat_map escaped_char l.yielded
