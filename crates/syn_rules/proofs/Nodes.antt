-- The depth of nodes as the rules make them.
use Rattle.std.proofs.Common.{◌≡◌, suc, max, List, map, Some, None, arith}
use Rattle.tok_types.specs.declared.span.Span.{Span}
use Rattle.node_expr.specs.declared.expr.Expr.{Expr}
use Rattle.node_expr.specs.declared.expr.Expr.TheVariants as expr
use Rattle.syn_grammar.specs.Depth.{deepest, expr_depth}
use Rattle.syn_grammar.proofs.Depths.{expr_depth-Array, expr_depth-Block}
use Rattle.syn_grammar.specs.Make as make

pub expr_depth-expr_array : (elems : List Expr) (span : Span) → expr_depth (make.expr_array elems span) ≡ suc (deepest (map expr_depth elems))
expr_depth-expr_array elems span = expr_depth-Array (record { elems = elems; span = span })

pub expr_depth-Block-None : (stmts : List Expr) (span : Span) → expr_depth (expr.Block stmts None span) ≡ suc (deepest (map expr_depth stmts))
expr_depth-Block-None stmts span = omega (arith, expr_depth-Block stmts None span)

pub expr_depth-Block-Some : (stmts : List Expr) (last : Expr) (span : Span) → expr_depth (expr.Block stmts (Some last) span) ≡ suc (max (deepest (map expr_depth stmts)) (expr_depth last))
expr_depth-Block-Some stmts last span = expr_depth-Block stmts (Some last) span

-- all of them
pub ruleset nodes = (expr_depth-expr_array, expr_depth-Block-None, expr_depth-Block-Some)
