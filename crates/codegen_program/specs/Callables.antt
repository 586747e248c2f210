-- What is called.
use Rattle.std.specs.Prelude.{None}
use Rattle.node_expr.specs.declared.expr.Expr.{Expr}
use Rattle.node_expr.specs.declared.expr.Expr.TheVariants as expr
use Rattle.node_expr.specs.declared.path.Path.{Path}
use Rattle.node_make.specs.Make.{make_expr_path}
use Rattle.node_span.specs.Spanned.{path_span}

-- the expression that a path is
abbrev pub path_call : Path → Expr
path_call path = expr.Path (make_expr_path None path (path_span path))
