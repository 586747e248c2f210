-- What stands where no item gives a value, as an option says it.
use Rattle.std.specs.Prelude.{Some, codes}
use Rattle.node_expr.specs.declared.expr.Expr.{Expr}
use Rattle.node_core.specs.declared.attr.Meta.{Meta}
use Rattle.node_core.specs.declared.attr.Meta.TheVariants as meta
use Rattle.node_span.specs.Spanned.{path_span}
use Rattle.error_fault.specs.Outcome.{Outcome, Value, on_value, refused}
use Rattle.error_fault.specs.declared.kind.FaultKind.TheVariants.{UnexpectedFormat}
use Rattle.util_core.specs.Cells.{Cells, no_cells}
use Rattle.util_core.specs.Dispatch.{from_expr, from_value}
use Rattle.util_core.specs.Callable.{callable, callable_cells}
use Rattle.options_types.specs.declared.default_expression.DefaultExpression.{DefaultExpression}
use Rattle.options_types.specs.declared.default_expression.DefaultExpression.TheVariants as defaults

-- what is called for the value
abbrev pub called : Outcome Expr → Outcome DefaultExpression
called = on_value (λ call. defaults.Explicit (callable call))

-- a word asks for the type's default, at its place; a list is no format of a default; a value is what is called
abbrev pub default_of : Meta → Outcome DefaultExpression
default_of (meta.Path path) = Value (defaults.Trait (path_span path))
default_of (meta.List list) = refused (UnexpectedFormat (codes "list"))
default_of (meta.NameValue pair) = called (from_expr callable_cells pair.value)

-- a meta, and a literal and an expression as a callable reads them
abbrev pub default_cells : Cells DefaultExpression
default_cells =
    record no_cells {
      value = λ it. Some (called (from_value callable_cells it));
      expr = λ it. Some (called (from_expr callable_cells it));
      meta = λ it. Some (default_of it);
    }
