use Rattle.std.proofs.Common.{◌≡◌, ◌++◌, drop, map}
use Rattle.print_core.specs.Marks.{comma, ended}
use Rattle.body_core.proofs.ast.fields_tokens.print_ended.Given as goal

abbrev pub invariant-loop-member : goal.invariant-loop-member
invariant-loop-member g l =
    l.trees ++ ended (comma l.span) (map g.T.ToTokens.printing (drop l.member-index l.members))
    ≡ ended (comma l.span) (map g.T.ToTokens.printing l.members)
