use Rattle.syn_grammar.specs.Grammar.{max_depth}
use Rattle.law_round_trip.proofs.OneKind as kind
use Rattle.law_round_trip.proofs.Wholes as whole
use Rattle.law_round_trip.proofs.Within.{within-backs}
use Rattle.law_round_trip.proofs.laws.trees_are_read_back.Goals as goal

pub returns-clause-type_of : goal.returns-clause-type_of
returns-clause-type_of c = whole.type_of-back (within-backs max_depth)

pub returns-clause-expr_of : goal.returns-clause-expr_of
returns-clause-expr_of c = whole.expr_of-back (within-backs max_depth)

pub returns-clause-path_of : goal.returns-clause-path_of
returns-clause-path_of c = whole.path_of-back (within-backs max_depth)

pub returns-clause-ident_of : goal.returns-clause-ident_of
returns-clause-ident_of c = whole.ident_of-back

pub returns-clause-expr_array_of : goal.returns-clause-expr_array_of
returns-clause-expr_array_of c = kind.expr_array_of-back (whole.expr_of-back (within-backs max_depth))

pub returns-clause-expr_path_of : goal.returns-clause-expr_path_of
returns-clause-expr_path_of c = kind.expr_path_of-back (whole.expr_of-back (within-backs max_depth))

pub returns-clause-expr_range_of : goal.returns-clause-expr_range_of
returns-clause-expr_range_of c = kind.expr_range_of-back (whole.expr_of-back (within-backs max_depth))

pub returns-clause-exprs_of : goal.returns-clause-exprs_of
returns-clause-exprs_of c = whole.exprs_of-back (within-backs max_depth)

pub returns-clause-paths_of : goal.returns-clause-paths_of
returns-clause-paths_of c = whole.paths_of-back (within-backs max_depth)

pub returns-clause-idents_of : goal.returns-clause-idents_of
returns-clause-idents_of c = whole.idents_of-back

pub returns-clause-fn_args_of : goal.returns-clause-fn_args_of
returns-clause-fn_args_of c = whole.fn_args_of-back (within-backs max_depth)
