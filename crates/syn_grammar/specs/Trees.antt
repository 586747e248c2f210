-- The trees of whole lists of tokens.
use Rattle.std.specs.Prelude.{true, List, Option, Some, None, if◌then◌else◌}
use Rattle.tok_types.specs.declared.tree.TokenStream.{TokenStream, out-TokenStream}
use Rattle.node_expr.specs.declared.expr.Expr.{Expr, out-Expr}
use Rattle.node_expr.specs.declared.expr.ExprArray.{ExprArray}
use Rattle.node_expr.specs.declared.expr.ExprPath.{ExprPath}
use Rattle.node_expr.specs.declared.expr.ExprRange.{ExprRange}
use Rattle.node_expr.specs.Kinds.{array_in, path_in, range_in}
use Rattle.node_expr.specs.Layers.{ExprLayer}
use Rattle.node_expr.specs.declared.path.Path.{Path}
use Rattle.node_expr.specs.declared.ty.«Type».{«Type» as Ty}
use Rattle.node_expr.specs.declared.ty.FnArg.{FnArg}
use Rattle.tok_types.specs.declared.ident.Ident.{Ident}
use Rattle.syn_grammar.specs.Words.{name_of}
use Rattle.syn_grammar.specs.Input.{Outcome, Parser, start_of, take_as, is_end}
use Rattle.syn_grammar.specs.Readers.{any_level}
use Rattle.syn_grammar.specs.Paths.{list, path}
use Rattle.syn_grammar.specs.Arguments.{fn_arg}
use Rattle.syn_grammar.specs.Grammar.{within, max_depth}

abbrev pub all : {A : Type 0} → Outcome A → Option A
all (Some found) = if is_end found.1.rest then Some found.0 else None
all None = None

-- the tree that a parser gives for all of the tokens
abbrev pub whole : {A : Type 0} → Parser A → TokenStream → Option A
whole parser tokens = all (parser (start_of (out-TokenStream tokens).trees))

unfoldable pub type_of : TokenStream → Option Ty
type_of = whole ((within max_depth).ty true)

unfoldable pub expr_of : TokenStream → Option Expr
expr_of = whole ((within max_depth).expr any_level)

-- a path as in a type
unfoldable pub path_of : TokenStream → Option Path
path_of = whole (path (within max_depth) true)

unfoldable pub ident_of : TokenStream → Option Ident
ident_of = whole (take_as name_of)

unfoldable pub exprs_of : TokenStream → Option (List Expr)
exprs_of = whole (list ((within max_depth).expr any_level))

unfoldable pub idents_of : TokenStream → Option (List Ident)
idents_of = whole (list (take_as name_of))

unfoldable pub paths_of : TokenStream → Option (List Path)
paths_of = whole (list (path (within max_depth) true))

-- the arguments of a function
unfoldable pub fn_args_of : TokenStream → Option (List FnArg)
fn_args_of = whole (list (fn_arg (within max_depth)))

-- ---- expressions of one kind

-- the part that an expression of the kind has
abbrev pub of_kind : {A : Type 0} → (ExprLayer → Option A) → Option Expr → Option A
of_kind part (Some expr) = part (out-Expr expr)
of_kind part None = None

unfoldable pub expr_array_of : TokenStream → Option (ExprArray Expr)
expr_array_of tokens = of_kind array_in (expr_of tokens)

unfoldable pub expr_path_of : TokenStream → Option ExprPath
expr_path_of tokens = of_kind path_in (expr_of tokens)

unfoldable pub expr_range_of : TokenStream → Option (ExprRange Expr)
expr_range_of tokens = of_kind range_in (expr_of tokens)
