use Rattle.std.proofs.Common.{◌≡◌, ◌++◌, ◌∷◌, [], drop, map}
use Rattle.print_core.specs.Marks.{after, mark}
use Rattle.print_core.specs.Fronts.{IsFront}
use Rattle.print_core.proofs.list.print_separated.Given as goal

abbrev pub invariant-loop-part : goal.invariant-loop-part
invariant-loop-part g l = record {
  written :
      l.trees ++ after (mark (l.separator ∷ []) l.span) (map g.T.ToTokens.printing (drop l.part-index l.others))
      ≡ l.initial.trees ++ after (mark (l.separator ∷ []) l.span) (map g.T.ToTokens.printing l.others);
  front : IsFront l.fn.trees l.trees;
}
