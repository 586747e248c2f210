-- The cells of what an expression is, without the invisible groups around it, or a string that is parsed.
use Rattle.std.specs.Prelude.{Bool, true, false, if◌then◌else◌, Option, Some, None, option_and_then, option_map}
use Rattle.tok_types.specs.declared.ident.Ident.{Ident}
use Rattle.tok_types.specs.declared.tree.TokenStream.{TokenStream}
use Rattle.node_expr.specs.Kinds.{path_in}
use Rattle.node_expr.specs.Layers.{ExprLayer}
use Rattle.node_expr.specs.PathIdent as path
use Rattle.node_expr.specs.declared.expr.Expr.{Expr, out-Expr}
use Rattle.node_expr.specs.declared.expr.Expr.TheOpen.{Expr-F}
use Rattle.node_expr.specs.declared.expr.ExprPath.{ExprPath, out-ExprPath}
use Rattle.node_expr.specs.declared.lit.Lit.TheVariants as lit
use Rattle.node_expr.specs.declared.path.Path.{Path}
use Rattle.node_expr.specs.declared.ty.TypePath.{TypePath}
use Rattle.node_make.specs.Make.{make_type_path}
use Rattle.error_fault.specs.Outcome.{Value}
use Rattle.meta_nested.specs.Cells.{Cells, no_cells}
use Rattle.meta_nested.specs.Groups.{without_groups}
use Rattle.syn_grammar.specs.Trees.{expr_of, ident_of, path_of}
use Rattle.meta_reads.specs.Kinds.{path_type_in, type_of_kind}
use Rattle.meta_reads.specs.Parsed.{parsed_text}
use Rattle.meta_reads.specs.Syntax.{parsed_lit}

-- the path of an expression, without the type that stands in front of it
abbrev pub bare_path_in : ExprLayer → Option Path
bare_path_in layer = option_map (λ it. (out-ExprPath it).path) (path_in layer)

-- the identifier that an expression is
abbrev pub ident_in : ExprLayer → Option Ident
ident_in layer = option_and_then path.ident_of (bare_path_in layer)

-- the path as a type
abbrev pub as_type_path : ExprPath → TypePath
as_type_path it = make_type_path (out-ExprPath it).qself (out-ExprPath it).path (out-ExprPath it).span

-- the path that an expression is, as a type
abbrev pub path_as_type_in : ExprLayer → Option TypePath
path_as_type_in layer = option_map as_type_path (path_in layer)

-- whether an expression is a string
abbrev pub is_string : ExprLayer → Bool
is_string (Expr-F.Lit (lit.Str text)) = true
is_string _ = false

-- the expression itself, unless it is a string
abbrev pub unless_string : Expr → Option Expr
unless_string it = if is_string (out-Expr it) then None else Some it

-- an identifier; a string is parsed
abbrev pub ident_cells : Cells Ident
ident_cells =
    record no_cells {
      string = λ text span. Some (parsed_text ident_of text span);
      expr = λ it. option_map Value (ident_in (out-Expr (without_groups it)));
    }

-- a path, whose qualified self is dropped; a string is parsed
abbrev pub path_cells : Cells Path
path_cells =
    record no_cells {
      string = λ text span. Some (parsed_text path_of text span);
      expr = λ it. option_map Value (bare_path_in (out-Expr (without_groups it)));
    }

-- every expression but a string, which is parsed
abbrev pub expr_cells : Cells Expr
expr_cells =
    record no_cells {
      string = λ text span. Some (parsed_text expr_of text span);
      expr = λ it. option_map Value (unless_string (without_groups it));
    }

-- a path, with its qualified self; a string is parsed
abbrev pub type_path_cells : Cells TypePath
type_path_cells =
    record no_cells {
      string = λ text span. Some (parsed_text (type_of_kind path_type_in) text span);
      expr = λ it. option_map Value (path_as_type_in (out-Expr (without_groups it)));
    }

-- an expression of this kind; a string literal is parsed
abbrev pub expr_kind_cells : {A : Type 0} → (ExprLayer → Option A) → (TokenStream → Option A) → Cells A
expr_kind_cells kind tree =
    record no_cells {
      value = parsed_lit tree;
      expr = λ it. option_map Value (kind (out-Expr (without_groups it)));
    }
