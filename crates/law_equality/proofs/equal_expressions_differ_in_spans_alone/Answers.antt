use Rattle.law_equality.proofs.Nodes.{argument_told, arguments_told, array_told, bound_told, expr_path_told, expr_told, path_told, segment_told, trait_bound_told, type_path_told, type_told}
use Rattle.law_equality.proofs.equal_expressions_differ_in_spans_alone.Goals as goal

pub returns-clause-expr : goal.returns-clause-expr
returns-clause-expr c = record { at = expr_told }

pub returns-clause-expr_path : goal.returns-clause-expr_path
returns-clause-expr_path c = record { at = expr_path_told }

pub returns-clause-ty : goal.returns-clause-ty
returns-clause-ty c = record { at = type_told }

pub returns-clause-type_path : goal.returns-clause-type_path
returns-clause-type_path c = record { at = type_path_told }

pub returns-clause-type_array : goal.returns-clause-type_array
returns-clause-type_array c = record { at = array_told }

pub returns-clause-path : goal.returns-clause-path
returns-clause-path c = record { at = path_told }

pub returns-clause-path_segment : goal.returns-clause-path_segment
returns-clause-path_segment c = record { at = segment_told }

pub returns-clause-path_arguments : goal.returns-clause-path_arguments
returns-clause-path_arguments c = record { at = arguments_told }

pub returns-clause-generic_argument : goal.returns-clause-generic_argument
returns-clause-generic_argument c = record { at = argument_told }

pub returns-clause-type_param_bound : goal.returns-clause-type_param_bound
returns-clause-type_param_bound c = record { at = bound_told }

pub returns-clause-trait_bound : goal.returns-clause-trait_bound
returns-clause-trait_bound c = record { at = trait_bound_told }
