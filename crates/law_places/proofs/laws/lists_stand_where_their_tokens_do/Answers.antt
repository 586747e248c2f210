use Rattle.law_places.proofs.Commas.{exprs_of-stand, idents_of-stand, paths_of-stand, fn_args_of-stand}
use Rattle.law_places.proofs.laws.lists_stand_where_their_tokens_do.Goals as goal

pub returns-clause-exprs_of : goal.returns-clause-exprs_of
returns-clause-exprs_of c = exprs_of-stand

pub returns-clause-idents_of : goal.returns-clause-idents_of
returns-clause-idents_of c = idents_of-stand

pub returns-clause-paths_of : goal.returns-clause-paths_of
returns-clause-paths_of c = paths_of-stand

pub returns-clause-fn_args_of : goal.returns-clause-fn_args_of
returns-clause-fn_args_of c = fn_args_of-stand
