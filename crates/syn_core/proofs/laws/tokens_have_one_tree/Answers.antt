use Rattle.syn_grammar.specs.Trees.{type_of, path_of, expr_of, ident_of, expr_array_of, expr_path_of, expr_range_of, fn_args_of, exprs_of, idents_of, paths_of}
use Rattle.syn_items.specs.Trees.{derive_input_of, items_of, type_param_of, visibility_of, where_of}
use Rattle.syn_core.proofs.OneTree.{one_tree}
use Rattle.syn_core.proofs.laws.tokens_have_one_tree.Goals as goal

pub returns-clause-ty : goal.returns-clause-ty
returns-clause-ty c = one_tree type_of

pub returns-clause-path : goal.returns-clause-path
returns-clause-path c = one_tree path_of

pub returns-clause-expr : goal.returns-clause-expr
returns-clause-expr c = one_tree expr_of

pub returns-clause-ident : goal.returns-clause-ident
returns-clause-ident c = one_tree ident_of

pub returns-clause-expr_array : goal.returns-clause-expr_array
returns-clause-expr_array c = one_tree expr_array_of

pub returns-clause-expr_path : goal.returns-clause-expr_path
returns-clause-expr_path c = one_tree expr_path_of

pub returns-clause-expr_range : goal.returns-clause-expr_range
returns-clause-expr_range c = one_tree expr_range_of

pub returns-clause-fn_args : goal.returns-clause-fn_args
returns-clause-fn_args c = one_tree fn_args_of

pub returns-clause-exprs : goal.returns-clause-exprs
returns-clause-exprs c = one_tree exprs_of

pub returns-clause-idents : goal.returns-clause-idents
returns-clause-idents c = one_tree idents_of

pub returns-clause-paths : goal.returns-clause-paths
returns-clause-paths c = one_tree paths_of

pub returns-clause-items : goal.returns-clause-items
returns-clause-items c = one_tree items_of

pub returns-clause-derive_input : goal.returns-clause-derive_input
returns-clause-derive_input c = one_tree derive_input_of

pub returns-clause-where_clause : goal.returns-clause-where_clause
returns-clause-where_clause c = one_tree where_of

pub returns-clause-visibility : goal.returns-clause-visibility
returns-clause-visibility c = one_tree visibility_of

pub returns-clause-type_param : goal.returns-clause-type_param
returns-clause-type_param c = one_tree type_param_of
