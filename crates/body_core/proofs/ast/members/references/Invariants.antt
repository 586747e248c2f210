use Rattle.std.proofs.Common.{◌≡◌, map, take}
use Rattle.body_core.proofs.ast.members.references.Given as goal

abbrev pub invariant-loop-member : goal.invariant-loop-member
invariant-loop-member g l = map (λ member. member.now) l.found ≡ take l.member-index l.members
