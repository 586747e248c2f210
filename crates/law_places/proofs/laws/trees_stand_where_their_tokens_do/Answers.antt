use Rattle.law_places.proofs.OneKind.{expr_array_of-stands, expr_path_of-stands, expr_range_of-stands}
use Rattle.law_places.proofs.Wholes.{type_of-stands, expr_of-stands, path_of-stands, ident_of-stands}
use Rattle.law_places.proofs.laws.trees_stand_where_their_tokens_do.Goals as goal

pub returns-clause-type_of : goal.returns-clause-type_of
returns-clause-type_of c = type_of-stands

pub returns-clause-expr_of : goal.returns-clause-expr_of
returns-clause-expr_of c = expr_of-stands

pub returns-clause-path_of : goal.returns-clause-path_of
returns-clause-path_of c = path_of-stands

pub returns-clause-ident_of : goal.returns-clause-ident_of
returns-clause-ident_of c = ident_of-stands

pub returns-clause-expr_array_of : goal.returns-clause-expr_array_of
returns-clause-expr_array_of c = expr_array_of-stands

pub returns-clause-expr_path_of : goal.returns-clause-expr_path_of
returns-clause-expr_path_of c = expr_path_of-stands

pub returns-clause-expr_range_of : goal.returns-clause-expr_range_of
returns-clause-expr_range_of c = expr_range_of-stands
