use Rattle.std.proofs.Common.{map}
use Rattle.body_usage.specs.Selected.{IsSetOf, shown}
use Rattle.body_usage.proofs.sets.copies.Given as goal

abbrev pub invariant-loop-name : goal.invariant-loop-name
invariant-loop-name g l = IsSetOf g.T.PartialEq.eq (shown (map (λ name. name.now) l.yielded)) l.answer.keys
