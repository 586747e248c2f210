use Rattle.node_expr.specs.contracts.expr.ExprEq.TheImpl.Laws as expr
use Rattle.node_expr.specs.contracts.expr.ExprPathEq.TheImpl.Laws as expr_path
use Rattle.node_expr.specs.contracts.ty.TypeEq.TheImpl.Laws as ty
use Rattle.node_expr.specs.contracts.ty.TypePathEq.TheImpl.Laws as type_path
use Rattle.node_expr.specs.contracts.ty.TypeArrayEq.TheImpl.Laws as type_array
use Rattle.node_expr.specs.contracts.path.PathEq.TheImpl.Laws as path
use Rattle.node_expr.specs.contracts.path.PathSegmentEq.TheImpl.Laws as path_segment
use Rattle.node_expr.specs.contracts.path.PathArgumentsEq.TheImpl.Laws as path_arguments
use Rattle.node_expr.specs.contracts.path.GenericArgumentEq.TheImpl.Laws as generic_argument
use Rattle.node_expr.specs.contracts.generics.TypeParamBoundEq.TheImpl.Laws as type_param_bound
use Rattle.node_expr.specs.contracts.generics.TraitBoundEq.TheImpl.Laws as trait_bound
use Rattle.law_eq.proofs.equality_of_expressions_is_an_equivalence.Goals as goal

pub returns-clause-expr : goal.returns-clause-expr
returns-clause-expr c = expr.laws-law

pub returns-clause-expr_path : goal.returns-clause-expr_path
returns-clause-expr_path c = expr_path.laws-law

pub returns-clause-ty : goal.returns-clause-ty
returns-clause-ty c = ty.laws-law

pub returns-clause-type_path : goal.returns-clause-type_path
returns-clause-type_path c = type_path.laws-law

pub returns-clause-type_array : goal.returns-clause-type_array
returns-clause-type_array c = type_array.laws-law

pub returns-clause-path : goal.returns-clause-path
returns-clause-path c = path.laws-law

pub returns-clause-path_segment : goal.returns-clause-path_segment
returns-clause-path_segment c = path_segment.laws-law

pub returns-clause-path_arguments : goal.returns-clause-path_arguments
returns-clause-path_arguments c = path_arguments.laws-law

pub returns-clause-generic_argument : goal.returns-clause-generic_argument
returns-clause-generic_argument c = generic_argument.laws-law

pub returns-clause-type_param_bound : goal.returns-clause-type_param_bound
returns-clause-type_param_bound c = type_param_bound.laws-law

pub returns-clause-trait_bound : goal.returns-clause-trait_bound
returns-clause-trait_bound c = trait_bound.laws-law
