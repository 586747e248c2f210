use Rattle.std.proofs.Common.{◌≡◌, ◌++◌, flat_map}
use Rattle.run_text.specs.ValueText.{quoted_char}
use Rattle.run_text.proofs.quoted.push_quoted_chars.Given as goal

abbrev pub invariant-loop-c : goal.invariant-loop-c
invariant-loop-c l = l.out ≡ l.initial.out ++ flat_map (quoted_char l.quote) l.yielded
