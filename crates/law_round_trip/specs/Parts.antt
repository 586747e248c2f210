-- The law of printing for the readers of the parts of a rule, and how parts print.
use Rattle.std.specs.Prelude.{ℕ, Bool, true, false, List, map}
use Rattle.tok_types.specs.declared.span.Span.{Span}
use Rattle.node_expr.specs.declared.generics.TypeParamBound.{TypeParamBound}
use Rattle.syn_grammar.specs.Readers.{Readers}
use Rattle.print_core.specs.declared.path.PathStyle.{PathStyle}
use Rattle.print_core.specs.declared.path.PathStyle.TheVariants.{Plain, Turbofish}
use Rattle.print_core.specs.Marks.{Trees}
use Rattle.print_core.specs.Nodes.{bound_tokens, expr_tokens, type_tokens}
use Rattle.print_core.specs.Paths.{sum_of}
use Rattle.law_spans.specs.Erased.{erased_bound, erased_expr, erased_type}
use Rattle.law_round_trip.specs.Follow.{AfterExpr, AfterType, BeginsExpr, BeginsType, NotEnded}
use Rattle.law_round_trip.specs.Printed.{RoundTrips}

-- how a path prints its arguments, in a type or an expression
abbrev pub style_of : Bool → PathStyle
style_of true = Plain
style_of false = Turbofish

-- bounds, with `+` of this place between them
abbrev pub bounds_tokens : Span → List TypeParamBound → Trees
bounds_tokens span found = sum_of (map bound_tokens found) span

-- the readers of the parts have the law
pub record AllRoundTrip (readers : Readers) : Type 0 where
  pub ty : (allow_plus : Bool) → RoundTrips erased_type type_tokens BeginsType (AfterType allow_plus) (readers.ty allow_plus)
  pub expr : (level : ℕ) → RoundTrips erased_expr expr_tokens (BeginsExpr level) (AfterExpr level) (readers.expr level)
  pub bounds : (span : Span) → RoundTrips (map erased_bound) (bounds_tokens span) NotEnded (AfterType true) readers.bounds
