-- A rule is read as a text is, and then looked up.
use Rattle.std.proofs.Common.{◌≡◌, List, [], ◌∷◌, Option, Some, None, refl, ap, ◌∙◌}
use Rattle.base_core.specs.declared.text.Text.{Text}
use Rattle.tok_types.specs.declared.span.Span.{Span}
use Rattle.node_expr.specs.Layers.{ExprLayer}
use Rattle.node_expr.specs.declared.expr.Expr.{Expr, out-Expr}
use Rattle.node_expr.specs.declared.expr.Expr.TheOpen.{Expr-F}
use Rattle.node_expr.specs.declared.lit.Lit.{Lit}
use Rattle.node_expr.specs.declared.lit.Lit.TheVariants as lit
use Rattle.node_core.specs.declared.attr.Meta.{Meta}
use Rattle.node_core.specs.declared.attr.Meta.TheVariants as meta
use Rattle.node_span.specs.Spanned.{expr_layer_span, expr_span, lit_span, meta_span}
use Rattle.error_fault.specs.Outcome.{Outcome, Value, Faults, bind, with_span}
use Rattle.meta_core.specs.Dispatch.{by_expr, from_list, from_meta, from_value, items_of, known}
use Rattle.meta_core.specs.Groups.{without_groups}
use Rattle.meta_core.specs.Rows.{text_cells}
use Rattle.meta_core.specs.NestedMeta.{NestedMeta}
use Rattle.util_table.specs.Rule.{rule_cells, value_span}
use Rattle.util_table.specs.Table.{rule_of}
use Rattle.util_table.specs.declared.row.Row.{Row}
use Rattle.util_table.specs.declared.rule.RenameRule.{RenameRule}

module _ (rows : List Row) where
  -- the rule of a text that stands there
  abbrev pub look : Span → Text → Outcome RenameRule
  look span text = with_span span (known text (rule_of rows text))

  in_list : (span place : Span) (items : Outcome (List NestedMeta))
      → with_span span (bind items (from_list (rule_cells rows)))
      ≡ bind (with_span span (bind items (from_list text_cells))) (look place)
  in_list span place (Value items) = refl
  in_list span place (Faults fault []) = refl
  in_list span place (Faults fault (other ∷ more)) = refl

  in_text : (text : Text) (outer inner place : Span) (rule : Option RenameRule)
      → with_span outer (with_span inner (with_span place (known text rule))) ≡ with_span place (known text rule)
  in_text text outer inner place (Some rule) = refl
  in_text text outer inner place None = refl

  in_lit : (outer inner : Span) (it : Lit)
      → with_span outer (with_span inner (from_value (rule_cells rows) it))
      ≡ bind (with_span outer (with_span inner (from_value text_cells it))) (look (lit_span it))
  in_lit outer inner (lit.Str it) = in_text it.value outer inner it.span (rule_of rows it.value)
  in_lit outer inner _ = refl

  in_layer : (outer inner place : Span) (it : Expr) (layer : ExprLayer) → expr_layer_span layer ≡ place
      → with_span outer (with_span inner (by_expr (rule_cells rows) it layer))
      ≡ bind (with_span outer (with_span inner (by_expr text_cells it layer))) (look place)
  in_layer outer inner place it (Expr-F.Lit literal) same =
      in_lit outer inner literal ∙ ap (λ span. bind (with_span outer (with_span inner (from_value text_cells literal))) (look span)) same
  in_layer outer inner place it _ same = refl

  -- an item is asked for a rule
  pub asked : (it : Meta) → from_meta (rule_cells rows) it ≡ bind (from_meta text_cells it) (look (value_span it))
  asked (meta.Path path) = refl
  asked (meta.List list) = in_list (meta_span (meta.List list)) (meta_span (meta.List list)) (items_of list.tokens)
  asked (meta.NameValue pair) =
      in_layer (meta_span (meta.NameValue pair)) (expr_span pair.value) (expr_span (without_groups pair.value)) (without_groups pair.value)
      (out-Expr (without_groups pair.value)) refl
