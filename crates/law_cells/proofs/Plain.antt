-- Types that read no literal and no expression.
use Rattle.std.proofs.Common.{List, Option, All, IfSome, unwrap_or}
use Rattle.node_core.specs.declared.attr.Meta.{Meta}
use Rattle.node_core.specs.declared.attr.Meta.TheVariants as meta
use Rattle.node_expr.specs.Layers.{ExprLayer}
use Rattle.node_expr.specs.declared.expr.Expr.{Expr, out-Expr}
use Rattle.node_expr.specs.declared.expr.Expr.TheOpen.{Expr-F}
use Rattle.node_expr.specs.declared.lit.Lit.{Lit}
use Rattle.node_expr.specs.declared.lit.Lit.TheVariants as lit
use Rattle.error_fault.specs.Outcome.{Outcome}
use Rattle.meta_nested.specs.Cells.{Cells, no_cells}
use Rattle.meta_nested.specs.Dispatch.{by_expr, by_lit, by_meta, from_expr, from_list, from_value, items_of}
use Rattle.meta_nested.specs.Groups.{without_groups}
use Rattle.meta_nested.specs.declared.nested.MetaNameValueInvalidExpr.{MetaNameValueInvalidExpr}
use Rattle.meta_nested.specs.declared.nested.NestedMeta.{NestedMeta}
use Rattle.meta_nested.specs.declared.nested.NestedMeta.TheVariants as nested
use Rattle.law_listed.specs.Listed.{IsListed}
use Rattle.law_cells.specs.Reads.{OnValue, Reads}
use Rattle.law_cells.proofs.Calls.{items_listed}
use Rattle.law_cells.proofs.Outcomes.{at_span, bound, or_else}

module _ {A : Type 0} (Says : A → Type 0) where
  module _ (word_cell : Option (Outcome A)) (list_cell : List NestedMeta → Option (Outcome A)) (bad_cell : MetaNameValueInvalidExpr → Option (Outcome A))
      (meta_cell : Meta → Option (Outcome A)) (none_cell : Option A) where
    -- cells for words, lists, bad values, metas and no item
    abbrev pub plain_cells : Cells A
    plain_cells = record no_cells { word = word_cell; list = list_cell; invalid_expr = bad_cell; meta = meta_cell; none = none_cell }

    plain_lit : (it : Lit) → OnValue Says (by_lit plain_cells it)
    plain_lit (lit.Str it) = tt
    plain_lit (lit.Char it) = tt
    plain_lit (lit.Bool it) = tt
    plain_lit _ = tt

    plain_value : (it : Lit) → OnValue Says (from_value plain_cells it)
    plain_value it = at_span Says _ (by_lit plain_cells it) (plain_lit it)

    plain_layer : (it : Expr) (layer : ExprLayer) → OnValue Says (by_expr plain_cells it layer)
    plain_layer it (Expr-F.Lit literal) = plain_value literal
    plain_layer it _ = tt

    plain_expr : (it : Expr) → OnValue Says (from_expr plain_cells it)
    plain_expr it =
        at_span Says _ (by_expr plain_cells (without_groups it) (out-Expr (without_groups it)))
        (plain_layer (without_groups it) (out-Expr (without_groups it)))

    -- such a type reads what its cells say
    module _ (of_word : IfSome word_cell (OnValue Says)) (of_list : (items : List NestedMeta) → All IsListed items → IfSome (list_cell items) (OnValue Says)) where
      plain_list : (items : List NestedMeta) → All IsListed items → OnValue Says (from_list plain_cells items)
      plain_list items listed = or_else Says (list_cell items) _ (of_list items listed) tt

      plain_meta : (it : Meta) → OnValue Says (by_meta plain_cells it)
      plain_meta (meta.Path path) = or_else Says word_cell _ of_word tt
      plain_meta (meta.«List» it) = bound Says (All IsListed) (from_list plain_cells) plain_list (items_of it.tokens) (items_listed it.tokens)
      plain_meta (meta.NameValue pair) = plain_expr pair.value

      pub reads_plain : ((it : MetaNameValueInvalidExpr) → IsListed (nested.NameValueInvalidExpr it) → IfSome (bad_cell it) (OnValue Says))
          → ((it : Meta) → IsListed (nested.Meta it) → IfSome (meta_cell it) (OnValue Says)) → IfSome none_cell Says → Reads Says plain_cells
      reads_plain of_bad of_meta of_none = record {
        meta = λ it listed. at_span Says _ (unwrap_or (meta_cell it) (by_meta plain_cells it)) (or_else Says (meta_cell it) (by_meta plain_cells it) (of_meta it listed) (plain_meta it));
        list = plain_list;
        value = λ it listed. plain_value it;
        invalid_expr = λ it listed. or_else Says (bad_cell it) _ (of_bad it listed) tt;
        none = of_none;
      }
