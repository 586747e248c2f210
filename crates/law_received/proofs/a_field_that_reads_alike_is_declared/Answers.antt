use Rattle.law_received.proofs.Fields.{multiple_is_field, optional_is_field, single_is_field}
use Rattle.law_received.proofs.a_field_that_reads_alike_is_declared.Goals as goal

pub returns-clause-single : goal.returns-clause-single
returns-clause-single g c = single_is_field g.T.FromMeta.cells

pub returns-clause-optional : goal.returns-clause-optional
returns-clause-optional g c = optional_is_field g.T.FromMeta.cells

pub returns-clause-multiple : goal.returns-clause-multiple
returns-clause-multiple g c = multiple_is_field g.T.FromMeta.cells
