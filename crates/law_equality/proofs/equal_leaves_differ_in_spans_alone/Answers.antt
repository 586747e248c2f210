use Rattle.law_equality.proofs.Leaves.{lit_told, member_told}
use Rattle.law_equality.proofs.equal_leaves_differ_in_spans_alone.Goals as goal

pub returns-clause-lit : goal.returns-clause-lit
returns-clause-lit c = record { at = lit_told }

pub returns-clause-member : goal.returns-clause-member
returns-clause-member c = record { at = member_told }
