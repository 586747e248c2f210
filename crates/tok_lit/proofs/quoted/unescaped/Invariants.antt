use Rattle.std.proofs.Common.{◌≡◌, ◌++◌, ◌-◌, drop, length}
use Rattle.tok_lit.specs.Reading.{unescaped}
use Rattle.tok_lit.proofs.quoted.unescaped.Given as goal

abbrev pub invariant-loop-i : goal.invariant-loop-i
invariant-loop-i l = l.value.items ++ unescaped l.byte 0 (drop l.i l.content) ≡ unescaped l.byte 0 l.content

abbrev pub decreases-loop-i : goal.decreases-loop-i
decreases-loop-i l = length l.content - l.i
