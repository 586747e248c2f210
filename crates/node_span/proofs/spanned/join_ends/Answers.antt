use Rattle.std.proofs.Common.{rules}
use Rattle.node_span.proofs.Ends.{list_span-ends}
use Rattle.node_span.proofs.spanned.join_ends.Goals as goal

pub returns-in-Some-Some : goal.returns-in-Some-Some
returns-in-Some-Some g c = search (rules, list_span-ends)
