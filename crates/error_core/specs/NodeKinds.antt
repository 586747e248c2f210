-- The names that faults give to the kinds of literals and expressions.
use Rattle.std.specs.Prelude.{codes}
use Rattle.base_core.specs.declared.text.Text.{Text}
use Rattle.node_expr.specs.Layers.{ExprLayer}
use Rattle.node_expr.specs.declared.expr.Expr.{Expr, out-Expr}
use Rattle.node_expr.specs.declared.expr.Expr.TheOpen.{Expr-F}
use Rattle.node_expr.specs.declared.lit.Lit.{Lit}
use Rattle.node_expr.specs.declared.lit.Lit.TheVariants as lit

abbrev pub lit_kind : Lit → Text
lit_kind (lit.Str it) = codes "string"
lit_kind (lit.ByteStr it) = codes "byte string"
lit_kind (lit.Byte it) = codes "byte"
lit_kind (lit.Char it) = codes "char"
lit_kind (lit.Int it) = codes "int"
lit_kind (lit.Float it) = codes "float"
lit_kind (lit.Bool it) = codes "bool"
lit_kind (lit.Verbatim it) = codes "verbatim"

abbrev pub expr_layer_kind : ExprLayer → Text
expr_layer_kind (Expr-F.Lit it) = codes "lit"
expr_layer_kind (Expr-F.Expr::Path it) = codes "path"
expr_layer_kind (Expr-F.Expr::Array it) = codes "array"
expr_layer_kind (Expr-F.Repeat expr len span) = codes "repeat"
expr_layer_kind (Expr-F.Expr::Tuple elems span) = codes "tuple"
expr_layer_kind (Expr-F.Expr::Paren expr span) = codes "paren"
expr_layer_kind (Expr-F.Expr::Group expr span) = codes "group"
expr_layer_kind (Expr-F.Unary op expr span) = codes "unary"
expr_layer_kind (Expr-F.Expr::Reference mutable expr span) = codes "reference"
expr_layer_kind (Expr-F.Binary left op right span) = codes "binary"
expr_layer_kind (Expr-F.Call func args span) = codes "call"
expr_layer_kind (Expr-F.MethodCall receiver method turbofish args span) = codes "method_call"
expr_layer_kind (Expr-F.Field base member span) = codes "field"
expr_layer_kind (Expr-F.Index expr index span) = codes "index"
expr_layer_kind (Expr-F.Try expr span) = codes "try"
expr_layer_kind (Expr-F.Range it) = codes "range"
expr_layer_kind (Expr-F.Closure it) = codes "closure"
expr_layer_kind (Expr-F.Block stmts last span) = codes "block"
expr_layer_kind (Expr-F.Expr::Infer span) = codes "infer"
expr_layer_kind (Expr-F.Verbatim tokens) = codes "verbatim"

abbrev pub expr_kind : Expr → Text
expr_kind expr = expr_layer_kind (out-Expr expr)
