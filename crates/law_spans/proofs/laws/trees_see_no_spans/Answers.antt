use Rattle.law_spans.proofs.Wholes.{type_of-bare, expr_of-bare, path_of-bare, ident_of-bare, exprs_of-bare, idents_of-bare, paths_of-bare, fn_args_of-bare}
use Rattle.law_spans.proofs.laws.trees_see_no_spans.Goals as goal

pub returns-clause-type_of : goal.returns-clause-type_of
returns-clause-type_of c = type_of-bare

pub returns-clause-expr_of : goal.returns-clause-expr_of
returns-clause-expr_of c = expr_of-bare

pub returns-clause-path_of : goal.returns-clause-path_of
returns-clause-path_of c = path_of-bare

pub returns-clause-ident_of : goal.returns-clause-ident_of
returns-clause-ident_of c = ident_of-bare

pub returns-clause-exprs_of : goal.returns-clause-exprs_of
returns-clause-exprs_of c = exprs_of-bare

pub returns-clause-idents_of : goal.returns-clause-idents_of
returns-clause-idents_of c = idents_of-bare

pub returns-clause-paths_of : goal.returns-clause-paths_of
returns-clause-paths_of c = paths_of-bare

pub returns-clause-fn_args_of : goal.returns-clause-fn_args_of
returns-clause-fn_args_of c = fn_args_of-bare
