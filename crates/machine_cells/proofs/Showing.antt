-- Each call shows what it reads: by the steps of the dispatch.
use Rattle.std.proofs.Common.{◌≡◌, ℕ, Bool, List, [], ◌∷◌, Option, Some, None, refl, ap, ◌∙◌, unwrap_or}
use Rattle.base_core.specs.declared.text.Text.{Text}
use Rattle.tok_types.specs.declared.span.Span.{Span}
use Rattle.node_core.specs.declared.attr.Meta.{Meta}
use Rattle.node_core.specs.declared.attr.Meta.TheVariants as meta
use Rattle.node_expr.specs.Layers.{ExprLayer}
use Rattle.node_expr.specs.declared.expr.Expr.{Expr, out-Expr}
use Rattle.node_expr.specs.declared.expr.Expr.TheOpen.{Expr-F}
use Rattle.node_expr.specs.declared.lit.Lit.{Lit}
use Rattle.node_expr.specs.declared.lit.Lit.TheVariants as lit
use Rattle.node_span.specs.Spanned.{expr_span, lit_span, meta_span}
use Rattle.error_fault.specs.Outcome.{Outcome, Value, Faults, bind, on_value, with_span}
use Rattle.util_core.specs.Nodes.{nested_span}
use Rattle.util_core.specs.MetaNameValueInvalidExpr.{MetaNameValueInvalidExpr}
use Rattle.util_core.specs.NestedMeta.{NestedMeta}
use Rattle.util_core.specs.NestedMeta.TheVariants as nested
use Rattle.util_core.specs.Cells.{Cells}
use Rattle.util_core.specs.Dispatch as read
use Rattle.util_core.specs.Groups.{without_groups}
use Rattle.util_core.specs.Shown.{shown, shown_cells}
use Rattle.machine_cells.specs.Laws.{Shows}

module _ {A B : Type 0} (show : A → B) where
  -- a cell, or else a default
  or-shown : (cell : Option (Outcome A)) (rest : Outcome B) (other : Outcome A) → rest ≡ on_value show other → unwrap_or (shown show cell) rest ≡ on_value show (unwrap_or cell other)
  or-shown None rest other same = same
  or-shown (Some it) rest other same = refl

  -- a place
  span-shown : (span : Span) (it : Outcome A) → with_span span (on_value show it) ≡ on_value show (with_span span it)
  span-shown span (Value x) = refl
  span-shown span (Faults fault []) = refl
  span-shown span (Faults fault (other ∷ more)) = refl

  bind-shown : {X : Type 0} (it : Outcome X) (f : X → Outcome B) (g : X → Outcome A) → ((x : X) → f x ≡ on_value show (g x)) → bind it f ≡ on_value show (bind it g)
  bind-shown (Value x) f g same = same x
  bind-shown (Faults fault more) f g same = refl

  module _ (cells : Cells A) where
    both : Cells B
    both = shown_cells show cells

    word-shown : read.from_word (shown_cells show cells) ≡ on_value show (read.from_word cells)
    word-shown = or-shown cells.word _ _ refl

    list-shown : (items : List NestedMeta) → read.from_list (shown_cells show cells) items ≡ on_value show (read.from_list cells items)
    list-shown items = or-shown (cells.list items) _ _ refl

    text-shown : (text : Text) (span : Span) → read.from_text (shown_cells show cells) text span ≡ on_value show (read.from_text cells text span)
    text-shown text span = or-shown (cells.string text span) _ _ refl

    char-shown : (c : ℕ) → read.from_char (shown_cells show cells) c ≡ on_value show (read.from_char cells c)
    char-shown c = or-shown (cells.char c) _ _ refl

    bool-shown : (b : Bool) → read.from_bool (shown_cells show cells) b ≡ on_value show (read.from_bool cells b)
    bool-shown b = or-shown (cells.bool b) _ _ refl

    by_lit-shown : (it : Lit) → read.by_lit (shown_cells show cells) it ≡ on_value show (read.by_lit cells it)
    by_lit-shown (lit.Str it) = text-shown it.value it.span
    by_lit-shown (lit.ByteStr it) = refl
    by_lit-shown (lit.Byte it) = refl
    by_lit-shown (lit.Char it) = char-shown it.value
    by_lit-shown (lit.Int it) = refl
    by_lit-shown (lit.Float it) = refl
    by_lit-shown (lit.Bool it) = bool-shown it.value
    by_lit-shown (lit.Verbatim it) = refl

    value-shown : (it : Lit) → read.from_value (shown_cells show cells) it ≡ on_value show (read.from_value cells it)
    value-shown it =
        ap (with_span (lit_span it)) (or-shown (cells.value it) (read.by_lit (shown_cells show cells) it) (read.by_lit cells it) (by_lit-shown it))
        ∙ span-shown (lit_span it) (unwrap_or (cells.value it) (read.by_lit cells it))

    by_expr-shown : (it : Expr) (layer : ExprLayer) → read.by_expr (shown_cells show cells) it layer ≡ on_value show (read.by_expr cells it layer)
    by_expr-shown it (Expr-F.Lit literal) = value-shown literal
    by_expr-shown it (Expr-F.«Expr::Path» path) = refl
    by_expr-shown it (Expr-F.«Expr::Array» array) = refl
    by_expr-shown it (Expr-F.Repeat expr len span) = refl
    by_expr-shown it (Expr-F.«Expr::Tuple» elems span) = refl
    by_expr-shown it (Expr-F.«Expr::Paren» expr span) = refl
    by_expr-shown it (Expr-F.«Expr::Group» expr span) = refl
    by_expr-shown it (Expr-F.Unary op expr span) = refl
    by_expr-shown it (Expr-F.«Expr::Reference» mutable expr span) = refl
    by_expr-shown it (Expr-F.Binary left op right span) = refl
    by_expr-shown it (Expr-F.Call func args span) = refl
    by_expr-shown it (Expr-F.MethodCall receiver method turbofish args span) = refl
    by_expr-shown it (Expr-F.Field base member span) = refl
    by_expr-shown it (Expr-F.Index expr index span) = refl
    by_expr-shown it (Expr-F.Try expr span) = refl
    by_expr-shown it (Expr-F.Range range) = refl
    by_expr-shown it (Expr-F.Closure closure) = refl
    by_expr-shown it (Expr-F.Block stmts last span) = refl
    by_expr-shown it (Expr-F.«Expr::Infer» span) = refl
    by_expr-shown it (Expr-F.Verbatim tokens) = refl

    expr-shown : (it : Expr) → read.from_expr (shown_cells show cells) it ≡ on_value show (read.from_expr cells it)
    expr-shown it =
        let layer : ExprLayer = out-Expr (without_groups it) in
        ap (with_span (expr_span it)) (or-shown (cells.expr it) (read.by_expr (shown_cells show cells) (without_groups it) layer) (read.by_expr cells (without_groups it) layer) (by_expr-shown (without_groups it) layer))
        ∙ span-shown (expr_span it) (unwrap_or (cells.expr it) (read.by_expr cells (without_groups it) layer))

    invalid_expr-shown : (it : MetaNameValueInvalidExpr) → read.from_invalid_expr (shown_cells show cells) it ≡ on_value show (read.from_invalid_expr cells it)
    invalid_expr-shown it = or-shown (cells.invalid_expr it) _ _ refl

    by_meta-shown : (it : Meta) → read.by_meta (shown_cells show cells) it ≡ on_value show (read.by_meta cells it)
    by_meta-shown (meta.Path path) = word-shown
    by_meta-shown (meta.«List» list) = bind-shown (read.items_of list.tokens) (read.from_list (shown_cells show cells)) (read.from_list cells) list-shown
    by_meta-shown (meta.NameValue pair) = expr-shown pair.value

    meta-shown : (it : Meta) → read.from_meta (shown_cells show cells) it ≡ on_value show (read.from_meta cells it)
    meta-shown it =
        ap (with_span (meta_span it)) (or-shown (cells.meta it) (read.by_meta (shown_cells show cells) it) (read.by_meta cells it) (by_meta-shown it))
        ∙ span-shown (meta_span it) (unwrap_or (cells.meta it) (read.by_meta cells it))

    by_nested_meta-shown : (it : NestedMeta) → read.by_nested_meta (shown_cells show cells) it ≡ on_value show (read.by_nested_meta cells it)
    by_nested_meta-shown (nested.Meta it) = meta-shown it
    by_nested_meta-shown (nested.Lit it) = value-shown it
    by_nested_meta-shown (nested.NameValueInvalidExpr it) = invalid_expr-shown it

    nested_meta-shown : (it : NestedMeta) → read.from_nested_meta (shown_cells show cells) it ≡ on_value show (read.from_nested_meta cells it)
    nested_meta-shown it =
        ap (with_span (nested_span it)) (or-shown (cells.nested_meta it) (read.by_nested_meta (shown_cells show cells) it) (read.by_nested_meta cells it) (by_nested_meta-shown it))
        ∙ span-shown (nested_span it) (unwrap_or (cells.nested_meta it) (read.by_nested_meta cells it))

    -- every call shows what it reads
    pub shows : Shows show cells
    shows =
        record {
          nested_meta = nested_meta-shown;
          meta = meta-shown;
          word = word-shown;
          list = list-shown;
          expr = expr-shown;
          invalid_expr = invalid_expr-shown;
          value = value-shown;
          text = text-shown;
          char = char-shown;
          bool = bool-shown;
          none = refl;
        }
