use Rattle.law_equality.proofs.Leaves.{ident_told, lifetime_told, literal_told, punct_told}
use Rattle.law_equality.proofs.Tokens.{group_told, stream_told, tree_told}
use Rattle.law_equality.proofs.equal_tokens_differ_in_spans_alone.Goals as goal

pub returns-clause-ident : goal.returns-clause-ident
returns-clause-ident c = record { at = ident_told }

pub returns-clause-lifetime : goal.returns-clause-lifetime
returns-clause-lifetime c = record { at = lifetime_told }

pub returns-clause-punct : goal.returns-clause-punct
returns-clause-punct c = record { at = punct_told }

pub returns-clause-literal : goal.returns-clause-literal
returns-clause-literal c = record { at = literal_told }

pub returns-clause-group : goal.returns-clause-group
returns-clause-group c = record { at = group_told }

pub returns-clause-tree : goal.returns-clause-tree
returns-clause-tree c = record { at = tree_told }

pub returns-clause-stream : goal.returns-clause-stream
returns-clause-stream c = record { at = stream_told }
