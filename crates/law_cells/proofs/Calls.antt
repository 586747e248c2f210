-- What the calls of a type read, by its cells.
use Rattle.std.proofs.Common.{subst, sym, List, All, Option, Some, None, IfSome, unwrap_or}
use Rattle.std.proofs.lemmas.Option.{IfSome_then}
use Rattle.base_core.specs.declared.text.Text.{Text}
use Rattle.tok_types.specs.declared.span.Span.{Span}
use Rattle.tok_types.specs.declared.tree.TokenStream.{TokenStream}
use Rattle.node_core.specs.declared.attr.Meta.{Meta}
use Rattle.node_core.specs.declared.attr.Meta.TheVariants as meta
use Rattle.node_core.specs.declared.attr.MetaNameValue.{MetaNameValue}
use Rattle.node_expr.specs.Layers.{ExprLayer}
use Rattle.node_expr.specs.declared.expr.Expr.{Expr, out-Expr}
use Rattle.node_expr.specs.declared.expr.Expr.TheOpen.{Expr-F}
use Rattle.node_expr.specs.declared.lit.Lit.{Lit}
use Rattle.node_expr.specs.declared.lit.Lit.TheVariants as lit
use Rattle.meta_nested.specs.Answers.{refused}
use Rattle.error_fault.specs.Outcome.{Outcome, Value, Faults}
use Rattle.meta_nested.specs.Groups.{without_groups}
use Rattle.meta_nested.specs.Nested.{nested_of}
use Rattle.meta_nested.specs.Cells.{Cells, no_cells}
use Rattle.meta_nested.specs.Dispatch.{by_expr, by_lit, by_meta, from_invalid_expr, from_list, from_meta, from_none, from_value, items_of}
use Rattle.meta_nested.specs.declared.nested.NestedMeta.{NestedMeta}
use Rattle.meta_nested.specs.declared.nested.NestedMeta.TheVariants as nested
use Rattle.machine_cells.specs.Shown.{shown_cells}
use Rattle.machine_cells.proofs.Showing.{shows}
use Rattle.law_listed.proofs.Items.{all-listed}
use Rattle.law_listed.specs.Listed.{IsListed}
use Rattle.law_cells.specs.Reads.{OnValue, Reads}
use Rattle.law_cells.proofs.Outcomes.{at_span, bound, found_says, is_tree, mapped, mapped_some, or_else, or_refused, weaker}

-- what shown cells read is what the cells read, shown
pub shown_reads : {A B : Type 0} (Says : A → Type 0) (Fits : B → Type 0) (show : A → B) (cells : Cells A) → ((x : A) → Says x → Fits (show x)) → Reads Says cells → Reads Fits (shown_cells show cells)
shown_reads Says Fits show cells fits reads =
    let same = shows show cells in
    record {
      meta = λ it is. subst (OnValue Fits) (sym (same.meta it)) (mapped Fits Says show fits (from_meta cells it) (reads.meta it is));
      list = λ items all. subst (OnValue Fits) (sym (same.list items)) (mapped Fits Says show fits (from_list cells items) (reads.list items all));
      value = λ it is. subst (OnValue Fits) (sym (same.value it)) (mapped Fits Says show fits (from_value cells it) (reads.value it is));
      invalid_expr = λ it is. subst (OnValue Fits) (sym (same.invalid_expr it)) (mapped Fits Says show fits (from_invalid_expr cells it) (reads.invalid_expr it is));
      none = mapped_some Fits Says show fits (from_none cells) reads.none;
    }

-- what is read has what follows from its property
pub weaker_reads : {A : Type 0} (Says Other : A → Type 0) (cells : Cells A) → ((x : A) → Says x → Other x) → Reads Says cells → Reads Other cells
weaker_reads Says Other cells more reads =
    record {
      meta = λ it is. weaker Other Says more (from_meta cells it) (reads.meta it is);
      list = λ items all. weaker Other Says more (from_list cells items) (reads.list items all);
      value = λ it is. weaker Other Says more (from_value cells it) (reads.value it is);
      invalid_expr = λ it is. weaker Other Says more (from_invalid_expr cells it) (reads.invalid_expr it is);
      none = IfSome_then (from_none cells) reads.none more;
    }

-- ---- values of which nothing is asked

abbrev pub Any : {A : Type 0} → A → Type 0
Any it = Unit {0}

any_value : {A : Type 0} (it : Outcome A) → OnValue Any it
any_value (Value x) = tt
any_value (Faults fault more) = tt

any_some : {A : Type 0} (it : Option A) → IfSome it Any
any_some None = tt
any_some (Some x) = tt

pub shown_any : {A B : Type 0} (Fits : B → Type 0) (show : A → B) (cells : Cells A) → ((x : A) → Fits (show x)) → Reads Fits (shown_cells show cells)
shown_any Fits show cells fits =
    shown_reads Any Fits show cells (λ x says. fits x) (record {
      meta = λ it is. any_value (from_meta cells it);
      list = λ items all. any_value (from_list cells items);
      value = λ it is. any_value (from_value cells it);
      invalid_expr = λ it is. any_value (from_invalid_expr cells it);
      none = any_some (from_none cells);
    })

-- ---- the items of a list

pub items_listed : (tokens : TokenStream) → OnValue (All IsListed) (items_of tokens)
items_listed tokens = is_tree (All IsListed) (refused tokens) (nested_of tokens) (found_says (All IsListed) (nested_of tokens) (all-listed tokens))

-- ---- cells for lists, strings, literals and expressions

-- each value of such a cell has the property
pub record Gives {A : Type 0} (Says : A → Type 0) (cells : Cells A) : Type 0 where
  pub list : (items : List NestedMeta) → All IsListed items → IfSome (cells.list items) (OnValue Says)
  pub string : (text : Text) (span : Span) → IfSome (cells.string text span) (OnValue Says)
  pub value : (it : Lit) → IfSome (cells.value it) (OnValue Says)
  pub expr : (pair : MetaNameValue) → IsListed (nested.Meta (meta.NameValue pair)) → IfSome (cells.expr pair.value) (OnValue Says)

-- a type that has no other cell
abbrev pub only : {A : Type 0} → Cells A → Cells A
only cells = record no_cells { list = cells.list; string = cells.string; value = cells.value; expr = cells.expr }

module _ {A : Type 0} (Says : A → Type 0) (cells : Cells A) (gives : Gives Says cells) where
  lit_says : (it : Lit) → OnValue Says (by_lit (only cells) it)
  lit_says (lit.Str it) = or_refused Says (cells.string it.value it.span) _ (gives.string it.value it.span)
  lit_says _ = tt

  pub value_says : (it : Lit) → OnValue Says (from_value (only cells) it)
  value_says it = at_span Says _ (unwrap_or (cells.value it) (by_lit (only cells) it)) (or_else Says (cells.value it) (by_lit (only cells) it) (gives.value it) (lit_says it))

  layer_says : (it : Expr) (layer : ExprLayer) → OnValue Says (by_expr (only cells) it layer)
  layer_says it (Expr-F.Lit literal) = value_says literal
  layer_says it _ = tt

  list_says : (items : List NestedMeta) → All IsListed items → OnValue Says (from_list (only cells) items)
  list_says items all = or_refused Says (cells.list items) _ (gives.list items all)

  meta_says : (it : Meta) → IsListed (nested.Meta it) → OnValue Says (by_meta (only cells) it)
  meta_says (meta.Path path) is = tt
  meta_says (meta.«List» it) is = bound Says (All IsListed) (from_list (only cells)) list_says (items_of it.tokens) (items_listed it.tokens)
  meta_says (meta.NameValue pair) is =
      at_span Says _ (unwrap_or (cells.expr pair.value) (by_expr (only cells) (without_groups pair.value) (out-Expr (without_groups pair.value))))
      (or_else Says (cells.expr pair.value) (by_expr (only cells) (without_groups pair.value) (out-Expr (without_groups pair.value))) (gives.expr pair is) (layer_says (without_groups pair.value) (out-Expr (without_groups pair.value))))

  pub reads : Reads Says (only cells)
  reads =
      record {
        meta = λ it is. at_span Says _ (by_meta (only cells) it) (meta_says it is);
        list = list_says;
        value = λ it is. value_says it;
        invalid_expr = λ it is. tt;
        none = tt;
      }

-- a type that is read from lists alone
pub list_reads : {A : Type 0} (Says : A → Type 0) (read : List NestedMeta → Outcome A) → ((items : List NestedMeta) → All IsListed items → OnValue Says (read items)) → Reads Says (record no_cells { list = λ items. Some (read items) })
list_reads Says read says =
    reads Says (record no_cells { list = λ items. Some (read items) }) (record { list = says; string = λ text span. tt; value = λ it. tt; expr = λ pair is. tt })
