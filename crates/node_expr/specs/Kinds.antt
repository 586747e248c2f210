-- Expressions and literals of one kind.
use Rattle.std.specs.Prelude.{Option, Some, None}
use Rattle.node_expr.specs.declared.expr.Expr.{Expr}
use Rattle.node_expr.specs.declared.expr.Expr.TheOpen.{Expr-F}
use Rattle.node_expr.specs.declared.expr.ExprArray.{ExprArray}
use Rattle.node_expr.specs.declared.expr.ExprPath.{ExprPath}
use Rattle.node_expr.specs.declared.expr.ExprRange.{ExprRange}
use Rattle.node_expr.specs.declared.lit.Lit.{Lit}
use Rattle.node_expr.specs.declared.lit.Lit.TheVariants as lit
use Rattle.node_expr.specs.declared.lit.LitStr.{LitStr}
use Rattle.node_expr.specs.Layers.{ExprLayer}

-- the array that an expression is
abbrev pub array_in : ExprLayer → Option (ExprArray Expr)
array_in (Expr-F.Expr::Array array) = Some array
array_in _ = None

-- the path that an expression is
abbrev pub path_in : ExprLayer → Option ExprPath
path_in (Expr-F.Expr::Path path) = Some path
path_in _ = None

-- the range that an expression is
abbrev pub range_in : ExprLayer → Option (ExprRange Expr)
range_in (Expr-F.Range range) = Some range
range_in _ = None

-- the string that a literal is
abbrev pub string_in : Lit → Option LitStr
string_in (lit.Str text) = Some text
string_in _ = None
