use Rattle.std.proofs.Common.{◌≡◌, ◌++◌, drop, map}
use Rattle.print_core.specs.Marks.{after, comma}
use Rattle.body_core.proofs.ast.fields_tokens.print_joined.Given as goal

abbrev pub invariant-loop-member : goal.invariant-loop-member
invariant-loop-member g l =
    l.trees ++ after (comma l.span) (map g.T.ToTokens.printing (drop l.member-index l.others))
    ≡ l.initial.trees ++ after (comma l.span) (map g.T.ToTokens.printing l.others)
