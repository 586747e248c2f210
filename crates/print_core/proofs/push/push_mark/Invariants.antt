use Rattle.std.proofs.Common.{◌≡◌, ◌++◌, drop}
use Rattle.print_core.specs.Marks.{mark}
use Rattle.print_core.specs.Fronts.{IsFront}
use Rattle.print_core.proofs.push.push_mark.Given as goal

abbrev pub invariant-loop-i : goal.invariant-loop-i
invariant-loop-i l = record {
  written : l.trees ++ mark (drop l.i l.characters) l.span ≡ l.initial.trees ++ mark l.characters l.span;
  front : IsFront l.initial.trees l.trees;
}
