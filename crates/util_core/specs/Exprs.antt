-- The value of a meta as an expression.
use Rattle.std.specs.Prelude.{[], Some, codes}
use Rattle.base_core.specs.declared.text.Text.{Text}
use Rattle.node_expr.specs.Layers.{ExprLayer}
use Rattle.node_expr.specs.declared.expr.Expr.{Expr, out-Expr}
use Rattle.node_expr.specs.declared.expr.Expr.TheOpen.{Expr-F}
use Rattle.node_core.specs.declared.attr.Meta.{Meta}
use Rattle.node_core.specs.declared.attr.Meta.TheVariants as meta
use Rattle.node_span.specs.Spanned.{meta_span}
use Rattle.error_fault.specs.Fault.{at_span}
use Rattle.error_fault.specs.Outcome.{Outcome, Value, Faults}
use Rattle.error_fault.specs.declared.kind.FaultKind.TheVariants.{UnexpectedFormat}
use Rattle.meta_core.specs.Cells.{Cells, no_cells}
use Rattle.meta_core.specs.Dispatch.{from_value}
use Rattle.meta_core.specs.Exprs.{expr_cells}

-- every expression as it stands, a string too
abbrev pub preserved_cells : Cells Expr
preserved_cells = record no_cells { expr = λ it. Some (Value it) }

-- a word is told as `path`
abbrev pub format_of : Meta → Text
format_of (meta.Path path) = codes "path"
format_of it = codes "list"

-- a word and a list have no value
abbrev pub no_value : Meta → Outcome Expr
no_value it = Faults (at_span (UnexpectedFormat (format_of it)) (meta_span it)) []

-- the value as it stands
abbrev pub preserved : Meta → Outcome Expr
preserved (meta.NameValue pair) = Value pair.value
preserved it = no_value it

abbrev pub parsed_layer : Expr → ExprLayer → Outcome Expr
parsed_layer it (Expr-F.Lit literal) = from_value expr_cells literal
parsed_layer it _ = Value it

-- the value, where a literal is read as an expression is from one
abbrev pub parsed : Meta → Outcome Expr
parsed (meta.NameValue pair) = parsed_layer pair.value (out-Expr pair.value)
parsed it = no_value it
