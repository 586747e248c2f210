-- What an option may name to be called: a path or a closure.
use Rattle.std.specs.Prelude.{[], Option, Some, None, option_and_then, codes}
use Rattle.tok_types.specs.declared.span.Span.{Span}
use Rattle.node_expr.specs.Layers.{ExprLayer}
use Rattle.node_expr.specs.declared.expr.Expr.{Expr, out-Expr}
use Rattle.node_expr.specs.declared.expr.Expr.TheOpen.{Expr-F}
use Rattle.node_expr.specs.declared.expr.Expr.TheVariants as expr
use Rattle.node_expr.specs.declared.lit.Lit.TheVariants as lit
use Rattle.node_expr.specs.declared.lit.LitStr.{LitStr}
use Rattle.node_expr.specs.declared.path.Path.{Path}
use Rattle.syn_grammar.specs.Trees.{path_of}
use Rattle.error_fault.specs.Fault.{at_span}
use Rattle.error_fault.specs.Outcome.{Outcome, Value, Faults}
use Rattle.error_fault.specs.declared.kind.FaultKind.TheVariants.{Custom}
use Rattle.law_lexed.specs.Lexed.{tokens_in}
use Rattle.meta_nested.specs.Cells.{Cells, no_cells}
use Rattle.meta_nested.specs.Dispatch.{unexpected_expr}
use Rattle.codegen_program.specs.declared.callable.Callable.{Callable}
use Rattle.codegen_program.specs.Callables.{path_call}

-- what calls the expression
abbrev pub callable : Expr → Callable
callable call = record { call = call }

-- a string that is no path, at its place
abbrev pub no_path : {A : Type 0} → Span → Outcome A
no_path span = Faults (at_span (Custom (codes "must be a path if it's a string: expected a path")) span) []

abbrev pub path_or_none : Span → Option Path → Outcome Expr
path_or_none span (Some path) = Value (path_call path)
path_or_none span None = no_path span

-- the path that a string is
abbrev pub quoted_call : LitStr → Outcome Expr
quoted_call text = path_or_none text.span (option_and_then path_of (tokens_in text.value text.span))

-- a path or a closure as it stands, and a string that is a path; no group is looked through
abbrev pub call_of : Expr → ExprLayer → Outcome Expr
call_of it (Expr-F.«Expr::Path» path) = Value it
call_of it (Expr-F.Closure closure) = Value it
call_of it (Expr-F.Lit (lit.Str text)) = quoted_call text
call_of it _ = unexpected_expr it

abbrev pub callable_cells : Cells Expr
callable_cells = record no_cells { expr = λ it. Some (call_of it (out-Expr it)) }
