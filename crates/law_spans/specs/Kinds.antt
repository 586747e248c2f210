-- Expressions of one kind without their places.
use Rattle.std.specs.Prelude.{map, option_map}
use Rattle.tok_types.specs.declared.span.Span.TheVariants.{CallSite}
use Rattle.node_expr.specs.declared.expr.Expr.{Expr}
use Rattle.node_expr.specs.declared.expr.ExprArray.{ExprArray}
use Rattle.node_expr.specs.declared.expr.ExprRange.{ExprRange}
use Rattle.law_spans.specs.Erased.{erased_expr}

abbrev pub erased_expr_array : ExprArray Expr → ExprArray Expr
erased_expr_array it = record { elems = map erased_expr it.elems; span = CallSite }

abbrev pub erased_expr_range : ExprRange Expr → ExprRange Expr
erased_expr_range it = record { start = option_map erased_expr it.start; end = option_map erased_expr it.end; closed = it.closed; span = CallSite }
