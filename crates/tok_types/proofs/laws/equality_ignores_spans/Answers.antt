use Rattle.tok_types.proofs.Spans.{eq-group_at, eq-stream_at, eq-tree_at}
use Rattle.tok_types.proofs.laws.equality_ignores_spans.Goals as goal

pub returns-clause-group : goal.returns-clause-group
returns-clause-group c = eq-group_at

pub returns-clause-tree : goal.returns-clause-tree
returns-clause-tree c = eq-tree_at

pub returns-clause-stream : goal.returns-clause-stream
returns-clause-stream c = eq-stream_at
