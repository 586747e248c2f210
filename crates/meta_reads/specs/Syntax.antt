-- The cells of what all of some tokens are: types, parameters, visibilities, `where` clauses and lists.
use Rattle.std.specs.Prelude.{Bool, true, false, if◌then◌else◌, List, ◌++◌, Option, Some, None, option_map, codes}
use Rattle.base_core.specs.declared.text.Text.{Text}
use Rattle.tok_types.specs.declared.span.Span.{Span}
use Rattle.tok_types.specs.declared.tree.TokenStream.{TokenStream}
use Rattle.node_expr.specs.Kinds.{string_in}
use Rattle.node_expr.specs.Layers.{ExprLayer}
use Rattle.node_expr.specs.declared.expr.Expr.{Expr, out-Expr}
use Rattle.node_expr.specs.declared.expr.Expr.TheOpen.{Expr-F}
use Rattle.node_expr.specs.declared.lit.Lit.{Lit}
use Rattle.node_core.specs.declared.generics.WherePredicate.{WherePredicate}
use Rattle.error_fault.specs.Outcome.{Outcome, on_value}
use Rattle.meta_nested.specs.Cells.{Cells, no_cells}
use Rattle.meta_nested.specs.Groups.{without_groups}
use Rattle.syn_items.specs.Trees.{where_of}
use Rattle.meta_reads.specs.Parsed.{parsed_text, parsed_tokens, printed}

-- whether an expression is a literal
abbrev pub is_lit : ExprLayer → Bool
is_lit (Expr-F.Lit literal) = true
is_lit _ = false

-- the tree of the tokens of an expression that is no literal
abbrev pub parsed_expr : {A : Type 0} → Text → (TokenStream → Option A) → Expr → Option (Outcome A)
parsed_expr expected tree it = if is_lit (out-Expr it) then None else Some (parsed_tokens expected tree (printed it))

-- a string, another expression and tokens that are no expression are parsed
abbrev pub syntax_cells : {A : Type 0} → Text → (TokenStream → Option A) → Cells A
syntax_cells expected tree =
    record no_cells {
      string = λ text span. Some (parsed_text tree text span);
      expr = λ it. parsed_expr expected tree (without_groups it);
      invalid_expr = λ it. Some (parsed_tokens expected tree it.value);
    }

-- the tree of a literal that is a string, whose tokens stand where it does
abbrev pub parsed_lit : {A : Type 0} → (TokenStream → Option A) → Lit → Option (Outcome A)
parsed_lit tree it = option_map (λ text. parsed_text tree text.value text.span) (string_in it)

-- a string literal is parsed
abbrev pub list_cells : {A : Type 0} → (TokenStream → Option A) → Cells A
list_cells tree = record no_cells { value = parsed_lit tree }

-- the predicates of the `where` clause that `where ` and the text are; else that longer text is an unknown value
abbrev pub parsed_predicates : Text → Span → Outcome (List WherePredicate)
parsed_predicates text span = on_value (λ clause. clause.predicates) (parsed_text where_of (codes "where " ++ text) span)

-- a string is parsed as what stands behind `where`
abbrev pub where_predicates_cells : Cells (List WherePredicate)
where_predicates_cells = record no_cells { string = λ text span. Some (parsed_predicates text span) }
