use Rattle.law_spans.proofs.Depths.{bound_depth-bare, expr_depth-bare, path_depth-bare, type_depth-bare}
use Rattle.law_spans.proofs.laws.depth_sees_no_spans.Goals as goal

pub returns-clause-ty : goal.returns-clause-ty
returns-clause-ty c = type_depth-bare

pub returns-clause-expr : goal.returns-clause-expr
returns-clause-expr c = expr_depth-bare

pub returns-clause-bound : goal.returns-clause-bound
returns-clause-bound c = bound_depth-bare

pub returns-clause-path : goal.returns-clause-path
returns-clause-path c = path_depth-bare
