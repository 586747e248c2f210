use Rattle.std.proofs.Common.{◌≡◌, ◌++◌, drop, flat_map}
use Rattle.print_core.specs.Fronts.{IsFront}
use Rattle.print_core.proofs.list.print_all.Given as goal

abbrev pub invariant-loop-part : goal.invariant-loop-part
invariant-loop-part g l = record {
  written : l.trees ++ flat_map g.T.ToTokens.printing (drop l.part-index l.parts) ≡ l.initial.trees ++ flat_map g.T.ToTokens.printing l.parts;
  front : IsFront l.fn.trees l.trees;
}
