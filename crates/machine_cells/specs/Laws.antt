-- What is read by cells whose values are shown is what is read by the cells, shown.
use Rattle.std.specs.Prelude.{◌≡◌, ℕ, Bool, List, option_map}
use Rattle.base_core.specs.declared.text.Text.{Text}
use Rattle.tok_types.specs.declared.span.Span.{Span}
use Rattle.node_core.specs.declared.attr.Meta.{Meta}
use Rattle.node_expr.specs.declared.expr.Expr.{Expr}
use Rattle.node_expr.specs.declared.lit.Lit.{Lit}
use Rattle.error_fault.specs.Outcome.{on_value}
use Rattle.util_core.specs.MetaNameValueInvalidExpr.{MetaNameValueInvalidExpr}
use Rattle.util_core.specs.NestedMeta.{NestedMeta}
use Rattle.util_core.specs.Cells.{Cells}
use Rattle.util_core.specs.Dispatch as read
use Rattle.util_core.specs.Shown.{shown_cells}

-- at each of the calls
pub record Shows {A B : Type 0} (show : A → B) (cells : Cells A) : Type 0 where
  pub nested_meta : (it : NestedMeta) → read.from_nested_meta (shown_cells show cells) it ≡ on_value show (read.from_nested_meta cells it)
  pub meta : (it : Meta) → read.from_meta (shown_cells show cells) it ≡ on_value show (read.from_meta cells it)
  pub word : read.from_word (shown_cells show cells) ≡ on_value show (read.from_word cells)
  pub list : (items : List NestedMeta) → read.from_list (shown_cells show cells) items ≡ on_value show (read.from_list cells items)
  pub expr : (it : Expr) → read.from_expr (shown_cells show cells) it ≡ on_value show (read.from_expr cells it)
  pub invalid_expr : (it : MetaNameValueInvalidExpr) → read.from_invalid_expr (shown_cells show cells) it ≡ on_value show (read.from_invalid_expr cells it)
  pub value : (it : Lit) → read.from_value (shown_cells show cells) it ≡ on_value show (read.from_value cells it)
  pub text : (text : Text) (span : Span) → read.from_text (shown_cells show cells) text span ≡ on_value show (read.from_text cells text span)
  pub char : (c : ℕ) → read.from_char (shown_cells show cells) c ≡ on_value show (read.from_char cells c)
  pub bool : (b : Bool) → read.from_bool (shown_cells show cells) b ≡ on_value show (read.from_bool cells b)
  pub none : read.from_none (shown_cells show cells) ≡ option_map show (read.from_none cells)
