-- Expressions.
use Rattle.std.specs.Prelude.{Bool, if◌then◌else◌, List, [], ◌∷◌, ◌++◌, Option, codes}
use Rattle.tok_types.specs.declared.span.Span.{Span}
use Rattle.tok_types.specs.declared.tree.Delimiter.TheVariants as delimiter
use Rattle.node_expr.specs.declared.expr.ExprArray.{ExprArray}
use Rattle.node_expr.specs.declared.expr.ExprRange.{ExprRange}
use Rattle.node_expr.specs.declared.expr.ExprClosure.{ExprClosure}
use Rattle.node_expr.specs.declared.expr.UnOp.{UnOp}
use Rattle.node_expr.specs.declared.expr.UnOp.TheVariants.{Deref, Not, Neg}
use Rattle.node_expr.specs.declared.expr.BinOp.{BinOp}
use Rattle.node_expr.specs.declared.expr.BinOp.TheVariants as op
use Rattle.node_expr.specs.declared.expr.Expr.TheOpen.{Expr-F}
use Rattle.print_core.specs.Marks.{Trees, contents, ident, mark, word, group, comma, colons, joined, ended, tuple, optional, unless_empty}
use Rattle.print_core.specs.Literals.{lit_tokens, member_tokens}
use Rattle.print_core.specs.Paths.{Styled, Arguments, PathParts, angled}
use Rattle.print_core.specs.Types.{mutability}

abbrev pub un_op_tokens : UnOp → Span → Trees
un_op_tokens Deref = mark (codes "*")
un_op_tokens Not = mark (codes "!")
un_op_tokens Neg = mark (codes "-")

abbrev pub bin_op_tokens : BinOp → Span → Trees
bin_op_tokens op.Or = mark (codes "||")
bin_op_tokens op.And = mark (codes "&&")
bin_op_tokens op.Eq = mark (codes "==")
bin_op_tokens op.Ne = mark (codes "!=")
bin_op_tokens op.Lt = mark (codes "<")
bin_op_tokens op.Gt = mark (codes ">")
bin_op_tokens op.Le = mark (codes "<=")
bin_op_tokens op.Ge = mark (codes ">=")
bin_op_tokens op.BitOr = mark (codes "|")
bin_op_tokens op.BitXor = mark (codes "^")
bin_op_tokens op.BitAnd = mark (codes "&")
bin_op_tokens op.Shl = mark (codes "<<")
bin_op_tokens op.Shr = mark (codes ">>")
bin_op_tokens op.Add = mark (codes "+")
bin_op_tokens op.Sub = mark (codes "-")
bin_op_tokens op.Mul = mark (codes "*")
bin_op_tokens op.Div = mark (codes "/")
bin_op_tokens op.Rem = mark (codes "%")

-- `(a, b)`
abbrev pub called_with : List Trees → Span → Trees
called_with args span = group delimiter.Parenthesis (joined (comma span) args) span

-- `::<T>`, or nothing without members
abbrev pub turbofish : List Trees → Span → Trees
turbofish arguments span = unless_empty arguments (colons span ++ angled arguments span)

-- `[a, b]`
abbrev pub array_rule : ExprArray Trees → Trees
array_rule it = group delimiter.Bracket (joined (comma it.span) it.elems) it.span

-- `a..b`, `a..=b`, either end left out
abbrev pub range_rule : ExprRange Trees → Trees
range_rule it =
    optional it.start ++ mark (if it.closed then codes "..=" else codes "..") it.span ++ optional it.end

-- what stands before the body is kept
abbrev pub closure_rule : ExprClosure Trees → Trees
closure_rule it = contents it.tokens ++ it.body

abbrev pub expr_rule : Expr-F Trees Trees Trees Arguments Trees Trees Trees PathParts Styled Trees Trees → Trees
expr_rule (Expr-F.Lit lit) = lit_tokens lit
expr_rule (Expr-F.Expr::Path path) = path
expr_rule (Expr-F.Expr::Array it) = array_rule it
expr_rule (Expr-F.Repeat expr len span) = group delimiter.Bracket (expr ++ mark (codes ";") span ++ len) span
expr_rule (Expr-F.Expr::Tuple elems span) = group delimiter.Parenthesis (tuple elems span) span
expr_rule (Expr-F.Expr::Paren expr span) = group delimiter.Parenthesis expr span
expr_rule (Expr-F.Expr::Group expr span) = group delimiter.None expr span
expr_rule (Expr-F.Unary operator expr span) = un_op_tokens operator span ++ expr
expr_rule (Expr-F.Expr::Reference mutable expr span) = mark (codes "&") span ++ mutability mutable span ++ expr
expr_rule (Expr-F.Binary left operator right span) = left ++ bin_op_tokens operator span ++ right
expr_rule (Expr-F.Call func args span) = func ++ called_with args span
expr_rule (Expr-F.MethodCall receiver method generics args span) =
    receiver ++ mark (codes ".") span ++ ident method ++ turbofish generics span ++ called_with args span
expr_rule (Expr-F.Field base member span) = base ++ mark (codes ".") span ++ member_tokens member
expr_rule (Expr-F.Index expr index span) = expr ++ group delimiter.Bracket index span
expr_rule (Expr-F.Try expr span) = expr ++ mark (codes "?") span
expr_rule (Expr-F.Range it) = range_rule it
expr_rule (Expr-F.Closure it) = closure_rule it
expr_rule (Expr-F.Block stmts last span) =
    group delimiter.Brace (ended (mark (codes ";") span) stmts ++ optional last) span
expr_rule (Expr-F.Expr::Infer span) = word (codes "_") span
expr_rule (Expr-F.Verbatim stream) = contents stream
