-- The rows of vectors: of literals, of unsigned integers, of names.
use Rattle.std.specs.Prelude.{List, [], Option, Some, None, option_map, codes}
use Rattle.tok_types.specs.declared.ident.Ident.{Ident}
use Rattle.node_expr.specs.Kinds.{array_in, string_in}
use Rattle.node_expr.specs.Layers.{ExprLayer}
use Rattle.node_expr.specs.PathIdent as paths
use Rattle.node_expr.specs.declared.expr.Expr.{Expr, out-Expr}
use Rattle.node_expr.specs.declared.expr.Expr.TheOpen.{Expr-F}
use Rattle.node_expr.specs.declared.expr.ExprArray.{ExprArray}
use Rattle.node_expr.specs.declared.lit.LitStr.{LitStr}
use Rattle.node_expr.specs.declared.path.Path.{Path}
use Rattle.node_core.specs.declared.attr.Meta.TheVariants as meta
use Rattle.node_span.specs.Spanned.{expr_span, meta_span, path_span}
use Rattle.syn_grammar.specs.Trees.{expr_array_of}
use Rattle.error_fault.specs.Fault.{at_span}
use Rattle.error_fault.specs.Outcome.{Outcome, Value, Faults, bind, refused}
use Rattle.error_core.specs.Each.{each, every}
use Rattle.error_fault.specs.declared.kind.FaultKind.TheVariants.{Custom, UnexpectedFormat}
use Rattle.meta_nested.specs.declared.nested.NestedMeta.{NestedMeta}
use Rattle.meta_nested.specs.declared.nested.NestedMeta.TheVariants as nested
use Rattle.meta_nested.specs.Cells.{Cells, no_cells}
use Rattle.meta_nested.specs.Dispatch.{from_expr, from_nested_meta, from_value}
use Rattle.meta_nested.specs.Groups.{in_group, without_groups}
use Rattle.meta_reads.specs.Parsed.{parsed_text}

-- ---- arrays

-- the elements of an array
abbrev pub elements : {A : Type 0} → (Expr → Outcome A) → ExprArray Expr → Outcome (List A)
elements read array = each read array.elems

-- the elements of the array that a string is
abbrev pub quoted_elements : {A : Type 0} → (Expr → Outcome A) → LitStr → Outcome (List A)
quoted_elements read it = bind (parsed_text expr_array_of it.value it.span) (elements read)

-- the elements of an array; a string literal is parsed as one
abbrev pub array_cells : {A : Type 0} → (Expr → Outcome A) → Cells (List A)
array_cells read =
    record no_cells {
      value = λ it. option_map (quoted_elements read) (string_in it);
      expr = λ it. option_map (elements read) (array_in (out-Expr (without_groups it)));
    }

module _ {A : Type 0} (cells : Cells A) where
  -- the items of a list, or the elements of an array
  abbrev pub literals_cells : Cells (List A)
  literals_cells = record (array_cells (from_expr cells)) { list = λ items. Some (each (from_nested_meta cells) items) }

  -- a literal in an array of integers; another element is a fault at its place
  abbrev pub by_element : Expr → ExprLayer → Outcome A
  by_element it (Expr-F.Lit literal) = from_value cells literal
  by_element it _ = Faults (at_span (Custom (codes "Expected array of unsigned integers")) (expr_span it)) []

  -- an element of an array of integers, which may stand in one invisible group
  abbrev pub integer_element : Expr → Outcome A
  integer_element it = by_element it (out-Expr (in_group it (out-Expr it)))

  -- the literals of an array
  abbrev pub integers_cells : Cells (List A)
  integers_cells = array_cells integer_element

-- ---- names

-- the path that a nested item is; a meta with more than its path is a fault at its place
abbrev pub path_item : NestedMeta → Outcome Path
path_item (nested.Meta (meta.Path path)) = Value path
path_item (nested.Meta it) = Faults (at_span (Custom (codes "expected a path only")) (meta_span it)) []
path_item _ = refused (UnexpectedFormat (codes "expression"))

-- the identifier that a path is; another path is a fault at its place
abbrev pub ident_or : Path → Option Ident → Outcome Ident
ident_or path (Some ident) = Value ident
ident_or path None = Faults (at_span (Custom (codes "expected an identifier")) (path_span path)) []

-- the identifier that a nested item is
abbrev pub ident_item : NestedMeta → Outcome Ident
ident_item it = bind (path_item it) (λ path. ident_or path (paths.ident_of path))

-- the items of a list, each by `read`
abbrev pub names_cells : {A : Type 0} → (NestedMeta → Outcome A) → Cells (List A)
names_cells read = record no_cells { list = λ items. Some (every read items) }
