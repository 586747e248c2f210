-- Literals, and what stands after the dot of a field.
use Rattle.std.specs.Prelude.{Bool, [], ◌++◌, if◌then◌else◌, codes}
use Rattle.tok_types.specs.declared.span.Span.{Span}
use Rattle.tok_types.specs.declared.tree.Literal.{Literal}
use Rattle.node_expr.specs.declared.lit.Lit.{Lit}
use Rattle.node_expr.specs.declared.lit.Lit.TheVariants.{Str, ByteStr, Byte, Char, Int, Float, «Bool» as Truth, Verbatim}
use Rattle.node_expr.specs.declared.lit.LitInt.{LitInt}
use Rattle.node_expr.specs.declared.lit.LitFloat.{LitFloat}
use Rattle.node_expr.specs.declared.lit.LitBool.{LitBool}
use Rattle.node_expr.specs.declared.expr.Member.{Member}
use Rattle.node_expr.specs.declared.expr.Member.TheVariants.{Named, Unnamed}
use Rattle.print_core.specs.Marks.{Trees, ident, literal, mark, word}

-- a number, after a minus where it is negative
abbrev pub signed : Bool → Literal → Span → Trees
signed negative token span = (if negative then mark (codes "-") span else []) ++ literal token

abbrev pub int_tokens : LitInt → Trees
int_tokens lit = signed lit.negative lit.token lit.span

abbrev pub float_tokens : LitFloat → Trees
float_tokens lit = signed lit.negative lit.token lit.span

abbrev pub bool_tokens : LitBool → Trees
bool_tokens lit = word (if lit.value then codes "true" else codes "false") lit.span

abbrev pub lit_tokens : Lit → Trees
lit_tokens (Str lit) = literal lit.token
lit_tokens (ByteStr lit) = literal lit.token
lit_tokens (Byte lit) = literal lit.token
lit_tokens (Char lit) = literal lit.token
lit_tokens (Int lit) = int_tokens lit
lit_tokens (Float lit) = float_tokens lit
lit_tokens (Truth lit) = bool_tokens lit
lit_tokens (Verbatim token) = literal token

abbrev pub member_tokens : Member → Trees
member_tokens (Named name) = ident name
member_tokens (Unnamed index) = int_tokens index
