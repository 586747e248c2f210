use Rattle.node_expr.specs.contracts.expr.ExprHash.TheImpl.Laws as expr
use Rattle.node_expr.specs.contracts.expr.ExprPathHash.TheImpl.Laws as expr_path
use Rattle.node_expr.specs.contracts.ty.TypeHash.TheImpl.Laws as ty
use Rattle.node_expr.specs.contracts.ty.TypePathHash.TheImpl.Laws as type_path
use Rattle.node_expr.specs.contracts.ty.TypeArrayHash.TheImpl.Laws as type_array
use Rattle.node_expr.specs.contracts.path.PathHash.TheImpl.Laws as path
use Rattle.node_expr.specs.contracts.path.PathSegmentHash.TheImpl.Laws as path_segment
use Rattle.node_expr.specs.contracts.path.PathArgumentsHash.TheImpl.Laws as path_arguments
use Rattle.node_expr.specs.contracts.path.GenericArgumentHash.TheImpl.Laws as generic_argument
use Rattle.node_expr.specs.contracts.generics.TypeParamBoundHash.TheImpl.Laws as type_param_bound
use Rattle.node_expr.specs.contracts.generics.TraitBoundHash.TheImpl.Laws as trait_bound
use Rattle.law_eq.proofs.equal_expressions_hash_alike.Goals as goal

pub returns-clause-expr : goal.returns-clause-expr
returns-clause-expr c = record { fed = expr.respects_eq-law }

pub returns-clause-expr_path : goal.returns-clause-expr_path
returns-clause-expr_path c = record { fed = expr_path.respects_eq-law }

pub returns-clause-ty : goal.returns-clause-ty
returns-clause-ty c = record { fed = ty.respects_eq-law }

pub returns-clause-type_path : goal.returns-clause-type_path
returns-clause-type_path c = record { fed = type_path.respects_eq-law }

pub returns-clause-type_array : goal.returns-clause-type_array
returns-clause-type_array c = record { fed = type_array.respects_eq-law }

pub returns-clause-path : goal.returns-clause-path
returns-clause-path c = record { fed = path.respects_eq-law }

pub returns-clause-path_segment : goal.returns-clause-path_segment
returns-clause-path_segment c = record { fed = path_segment.respects_eq-law }

pub returns-clause-path_arguments : goal.returns-clause-path_arguments
returns-clause-path_arguments c = record { fed = path_arguments.respects_eq-law }

pub returns-clause-generic_argument : goal.returns-clause-generic_argument
returns-clause-generic_argument c = record { fed = generic_argument.respects_eq-law }

pub returns-clause-type_param_bound : goal.returns-clause-type_param_bound
returns-clause-type_param_bound c = record { fed = type_param_bound.respects_eq-law }

pub returns-clause-trait_bound : goal.returns-clause-trait_bound
returns-clause-trait_bound c = record { fed = trait_bound.respects_eq-law }
