-- What each expression prints, with its parts from left to right.
use Rattle.std.proofs.Common.{◌≡◌, Bool, if◌then◌else◌, List, [], ◌∷◌, ◌++◌, map, option_map, Option, Some, None, refl, codes}
use Rattle.tok_types.specs.declared.ident.Ident.{Ident}
use Rattle.tok_types.specs.declared.span.Span.{Span}
use Rattle.tok_types.specs.declared.tree.Delimiter.TheVariants as delimiter
use Rattle.tok_types.specs.declared.tree.Literal.{Literal}
use Rattle.tok_types.specs.declared.tree.TokenTree.{TokenTree}
use Rattle.tok_types.specs.declared.tree.TokenTree.TheVariants as tree
use Rattle.node_expr.specs.declared.expr.Expr.{Expr, the_lemmas}
use Rattle.node_expr.specs.declared.expr.Expr.TheVariants as expr
use Rattle.node_expr.specs.declared.expr.Member.{Member}
use Rattle.node_expr.specs.declared.lit.Lit.{Lit}
use Rattle.node_expr.specs.declared.lit.Lit.TheVariants as lit
use Rattle.node_expr.specs.declared.path.GenericArgument.{GenericArgument}
use Rattle.node_expr.specs.declared.path.Path.{Path}
use Rattle.node_expr.specs.declared.path.QSelf.{QSelf}
use Rattle.node_expr.specs.declared.ty.«Type».{«Type» as Ty}
use Rattle.tok_lit.specs.declared.value.Value.{Value}
use Rattle.tok_lit.specs.declared.value.Value.TheVariants as value
use Rattle.syn_grammar.specs.Literals.{lit_by, lit_of, value_of}
use Rattle.syn_grammar.specs.Make as make
use Rattle.print_core.specs.declared.path.PathStyle.TheVariants.{Turbofish}
use Rattle.print_core.specs.Exprs.{called_with, turbofish}
use Rattle.print_core.specs.Literals.{lit_tokens, member_tokens}
use Rattle.print_core.specs.Marks.{comma, ended, group, ident, joined, mark, optional, tuple, word}
use Rattle.print_core.specs.Nodes.{argument_tokens, expr_tokens, path_parts, path_tokens, type_tokens}
use Rattle.print_core.specs.Paths.{after_type}

-- ---- atoms

pub print-Lit : (it : Lit) → expr_tokens (expr.Lit it) ≡ lit_tokens it
print-Lit it = search the_lemmas

pub lit_tokens-by : (token : Literal) (found : Option Value) → lit_tokens (lit_by token found) ≡ tree.Literal token ∷ []
lit_tokens-by token (Some (value.Str text)) = refl
lit_tokens-by token (Some (value.ByteStr bytes)) = refl
lit_tokens-by token (Some (value.Byte byte)) = refl
lit_tokens-by token (Some (value.Char ch)) = refl
lit_tokens-by token (Some (value.Int digits)) = refl
lit_tokens-by token (Some value.Float) = refl
lit_tokens-by token None = refl

-- a literal prints its token
pub print-literal : (token : Literal) → expr_tokens (expr.Lit (lit_of token)) ≡ tree.Literal token ∷ []
unfolding lit_of
print-literal token = rw (print-Lit (lit_of token)) (lit_tokens-by token (value_of _))

pub print-bool : (value : Bool) (span : Span) → expr_tokens (expr.Lit (lit.Bool (record { value = value; span = span }))) ≡ word (if value then codes "true" else codes "false") span
print-bool value span = print-Lit (lit.Bool (record { value = value; span = span }))

pub print-expr_path : (it : Path) (span : Span) → expr_tokens (make.expr_path None it span) ≡ path_tokens Turbofish it
print-expr_path it span = search the_lemmas

pub print-expr_qualified : (it : QSelf Ty) (behind : Path) (span : Span)
    → expr_tokens (make.expr_path (Some it) behind span) ≡ mark (codes "<") it.span ++ type_tokens it.ty ++ after_type it.position it.span Turbofish (path_parts behind)
print-expr_qualified it behind span = search the_lemmas

pub print-Tuple : (elems : List Expr) (span : Span) → expr_tokens (expr.Tuple elems span) ≡ group delimiter.Parenthesis (tuple (map expr_tokens elems) span) span
print-Tuple elems span = search the_lemmas

pub print-Paren : (inner : Expr) (span : Span) → expr_tokens (expr.Paren inner span) ≡ group delimiter.Parenthesis (expr_tokens inner) span
print-Paren inner span = search the_lemmas

pub print-Group : (inner : Expr) (span : Span) → expr_tokens (expr.Group inner span) ≡ group delimiter.None (expr_tokens inner) span
print-Group inner span = search the_lemmas

pub print-Array : (elems : List Expr) (span : Span) → expr_tokens (make.expr_array elems span) ≡ group delimiter.Bracket (joined (comma span) (map expr_tokens elems)) span
print-Array elems span = search the_lemmas

pub print-Repeat : (elem len : Expr) (span : Span) → expr_tokens (expr.Repeat elem len span) ≡ group delimiter.Bracket (expr_tokens elem ++ mark (codes ";") span ++ expr_tokens len) span
print-Repeat elem len span = search the_lemmas

pub print-Block : (stmts : List Expr) (last : Option Expr) (span : Span) → expr_tokens (expr.Block stmts last span) ≡ group delimiter.Brace (ended (mark (codes ";") span) (map expr_tokens stmts) ++ optional (option_map expr_tokens last)) span
print-Block stmts None span = search the_lemmas
print-Block stmts (Some last) span = search the_lemmas

pub print-Infer : (span : Span) → expr_tokens (expr.Infer span) ≡ word (codes "_") span
print-Infer span = search the_lemmas

-- ---- what stands behind an operand

pub print-Call : (func : Expr) (args : List Expr) (span : Span) → expr_tokens (expr.Call func args span) ≡ expr_tokens func ++ called_with (map expr_tokens args) span
print-Call func args span = search the_lemmas

pub print-MethodCall : (receiver : Expr) (method : Ident) (generics : List GenericArgument) (args : List Expr) (span : Span)
    → expr_tokens (expr.MethodCall receiver method generics args span) ≡ expr_tokens receiver ++ mark (codes ".") span ++ ident method ++ turbofish (map argument_tokens generics) span ++ called_with (map expr_tokens args) span
print-MethodCall receiver method generics args span = search the_lemmas

pub print-Field : (base : Expr) (member : Member) (span : Span) → expr_tokens (expr.Field base member span) ≡ expr_tokens base ++ mark (codes ".") span ++ member_tokens member
print-Field base member span = search the_lemmas

pub print-Index : (base at : Expr) (span : Span) → expr_tokens (expr.Index base at span) ≡ expr_tokens base ++ group delimiter.Bracket (expr_tokens at) span
print-Index base at span = search the_lemmas

pub print-Try : (inner : Expr) (span : Span) → expr_tokens (expr.Try inner span) ≡ expr_tokens inner ++ mark (codes "?") span
print-Try inner span = search the_lemmas

-- ---- closures

-- a closure prints what it keeps before its body
pub print-Closure : (kept : List TokenTree) (body : Expr) (span : Span) → expr_tokens (make.expr_closure kept body span) ≡ kept ++ expr_tokens body
print-Closure kept body span = search the_lemmas
