-- What the eleven calls of a conversion answer, by the cells of the type.
use Rattle.std.specs.Prelude.{ℕ, Bool, List, [], Option, Some, None, unwrap_or, codes}
use Rattle.base_core.specs.declared.text.Text.{Text}
use Rattle.tok_types.specs.declared.span.Span.{Span}
use Rattle.tok_types.specs.declared.span.Span.TheVariants.{CallSite}
use Rattle.tok_types.specs.declared.tree.TokenStream.{TokenStream}
use Rattle.node_expr.specs.Layers.{ExprLayer}
use Rattle.node_expr.specs.declared.expr.Expr.{Expr, out-Expr}
use Rattle.node_expr.specs.declared.expr.Expr.TheOpen.{Expr-F}
use Rattle.node_expr.specs.declared.lit.Lit.{Lit}
use Rattle.node_expr.specs.declared.lit.Lit.TheVariants as lit
use Rattle.node_core.specs.declared.error.SynError.{SynError}
use Rattle.node_core.specs.declared.attr.Meta.{Meta}
use Rattle.node_core.specs.declared.attr.Meta.TheVariants as meta
use Rattle.node_span.specs.Spanned.{expr_span, lit_span, meta_span}
use Rattle.error_fault.specs.Fault.{at_span}
use Rattle.error_fault.specs.Kind.{set_of}
use Rattle.error_fault.specs.Outcome.{Outcome, Value, Faults, bind, refused, with_span}
use Rattle.error_fault.specs.declared.kind.FaultKind.TheVariants.{Custom, UnexpectedFormat, UnexpectedType, UnknownValue}
use Rattle.error_core.specs.Answers.{refusal}
use Rattle.error_core.specs.NodeKinds.{expr_kind, lit_kind}
use Rattle.meta_nested.specs.Answers as parsed
use Rattle.meta_nested.specs.Nested.{nested_of}
use Rattle.meta_nested.specs.Nodes.{nested_span}
use Rattle.meta_nested.specs.declared.nested.MetaNameValueInvalidExpr.{MetaNameValueInvalidExpr}
use Rattle.meta_nested.specs.declared.nested.NestedMeta.{NestedMeta}
use Rattle.meta_nested.specs.declared.nested.NestedMeta.TheVariants as nested
use Rattle.meta_nested.specs.Cells.{Cells}
use Rattle.meta_nested.specs.Groups.{without_groups}

-- the tree that a parser gives, or else its one fault
abbrev pub tree_or : {A : Type 0} → SynError → Option A → Outcome A
tree_or error (Some tree) = Value tree
tree_or error None = Faults (at_span (Custom error.first.1) error.first.0) []

-- the nested items that the tokens of a list are
abbrev pub items_of : TokenStream → Outcome (List NestedMeta)
items_of tokens = tree_or (parsed.refused tokens) (nested_of tokens)

-- the value that a text is; a text that is none is an unknown value
abbrev pub known : {A : Type 0} → Text → Option A → Outcome A
known text (Some value) = Value value
known text None = refused (UnknownValue text (set_of []))

-- a literal of a kind that is not read, at its place
abbrev pub unexpected_lit : {A : Type 0} → Lit → Outcome A
unexpected_lit it = Faults (at_span (UnexpectedType (lit_kind it)) (lit_span it)) []

-- an expression of a kind that is not read, at its place
abbrev pub unexpected_expr : {A : Type 0} → Expr → Outcome A
unexpected_expr it = Faults (at_span (UnexpectedType (expr_kind it)) (expr_span it)) []

module _ {A : Type 0} (cells : Cells A) where
  -- a word
  abbrev pub from_word : Outcome A
  from_word = unwrap_or cells.word (refused (UnexpectedFormat (codes "word")))

  -- the items of a list
  abbrev pub from_list : List NestedMeta → Outcome A
  from_list items = unwrap_or (cells.list items) (refused (UnexpectedFormat (codes "list")))

  -- a string, in which tokens stand at the span
  abbrev pub from_text : Text → Span → Outcome A
  from_text text span = unwrap_or (cells.string text span) (refused (UnexpectedType (codes "string")))

  -- a string from nowhere in a text
  abbrev pub from_string : Text → Outcome A
  from_string text = from_text text CallSite

  abbrev pub from_char : ℕ → Outcome A
  from_char c = unwrap_or (cells.char c) (refused (UnexpectedType (codes "char")))

  abbrev pub from_bool : Bool → Outcome A
  from_bool b = unwrap_or (cells.bool b) (refused (UnexpectedType (codes "bool")))

  -- a literal by its kind
  abbrev pub by_lit : Lit → Outcome A
  by_lit (lit.Str it) = from_text it.value it.span
  by_lit (lit.Char it) = from_char it.value
  by_lit (lit.Bool it) = from_bool it.value
  by_lit it = unexpected_lit it

  -- a literal; a single fault without a place stands where it does
  abbrev pub from_value : Lit → Outcome A
  from_value it = with_span (lit_span it) (unwrap_or (cells.value it) (by_lit it))

  -- an expression by its kind
  abbrev pub by_expr : Expr → ExprLayer → Outcome A
  by_expr it (Expr-F.Lit literal) = from_value literal
  by_expr it _ = unexpected_expr it

  -- an expression; invisible groups around it are looked through
  abbrev pub from_expr : Expr → Outcome A
  from_expr it = with_span (expr_span it) (unwrap_or (cells.expr it) (by_expr (without_groups it) (out-Expr (without_groups it))))

  -- tokens that are no expression: their stored fault
  abbrev pub from_invalid_expr : MetaNameValueInvalidExpr → Outcome A
  from_invalid_expr it = unwrap_or (cells.invalid_expr it) (refusal it.error)

  -- a meta by its format
  abbrev pub by_meta : Meta → Outcome A
  by_meta (meta.Path path) = from_word
  by_meta (meta.List list) = bind (items_of list.tokens) from_list
  by_meta (meta.NameValue pair) = from_expr pair.value

  abbrev pub from_meta : Meta → Outcome A
  from_meta it = with_span (meta_span it) (unwrap_or (cells.meta it) (by_meta it))

  -- a nested item by its kind
  abbrev pub by_nested_meta : NestedMeta → Outcome A
  by_nested_meta (nested.Meta it) = from_meta it
  by_nested_meta (nested.Lit it) = from_value it
  by_nested_meta (nested.NameValueInvalidExpr it) = from_invalid_expr it

  abbrev pub from_nested_meta : NestedMeta → Outcome A
  from_nested_meta it = with_span (nested_span it) (unwrap_or (cells.nested_meta it) (by_nested_meta it))

  -- no item at all
  abbrev pub from_none : Option A
  from_none = cells.none
