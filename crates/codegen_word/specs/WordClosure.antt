-- The closure `|| _darling::export::Ok(Self::V)`, token by token and node by node.
use Rattle.std.specs.Prelude.{Bool, true, false, List, [], ◌∷◌, ◌++◌, codes, None}
use Rattle.base_core.specs.declared.text.Text.{Text}
use Rattle.tok_types.specs.Stream.{stream_of}
use Rattle.tok_types.specs.declared.ident.Ident.{Ident}
use Rattle.tok_types.specs.declared.span.Span.TheVariants.{CallSite}
use Rattle.tok_types.specs.declared.tree.TokenStream.{TokenStream}
use Rattle.tok_types.specs.declared.tree.TokenTree.{TokenTree}
use Rattle.tok_types.specs.declared.tree.TokenTree.TheVariants as tree
use Rattle.node_expr.specs.declared.expr.Expr.{Expr}
use Rattle.node_expr.specs.declared.expr.Expr.TheVariants as expr
use Rattle.node_expr.specs.declared.path.PathArguments.TheVariants as arguments
use Rattle.node_expr.specs.declared.path.PathSegment.{PathSegment}
use Rattle.node_make.specs.Make.{make_expr_path, make_path, make_segment}
use Rattle.codegen_program.specs.declared.callable.Callable.{Callable}

-- an identifier that no text shows
abbrev pub own_ident : Text → Ident
own_ident text = record { text = text; raw = false; span = CallSite }

-- the identifier alone
abbrev pub segment : Ident → PathSegment
segment ident = make_segment ident arguments.None CallSite

-- the segments joined by `::`, as an expression
abbrev pub path_of : List PathSegment → Expr
path_of segments = expr.Path (make_expr_path None (make_path false segments CallSite) CallSite)

-- `|`
abbrev pub bar : Bool → TokenTree
bar joint = tree.Punct (record { ch = 124; joint = joint; span = CallSite })

-- `||`
abbrev pub no_arguments : TokenStream
no_arguments = stream_of (bar true ∷ bar false ∷ [])

-- `_darling::export`
abbrev pub export_path : List PathSegment
export_path = segment (own_ident (codes "_darling")) ∷ segment (own_ident (codes "export")) ∷ []

-- `_darling::export::Ok`
abbrev pub ok_path : Expr
ok_path = path_of (export_path ++ segment (own_ident (codes "Ok")) ∷ [])

-- `Self::V`
abbrev pub built_variant : Ident → Expr
built_variant variant = path_of (segment (own_ident (codes "Self")) ∷ segment variant ∷ [])

-- `_darling::export::Ok(Self::V)`
abbrev pub word_body : Ident → Expr
word_body variant = expr.Call ok_path (built_variant variant ∷ []) CallSite

-- `|| _darling::export::Ok(Self::V)`
unfoldable pub word_closure : Ident → Callable
word_closure variant = record { call = expr.Closure (record { tokens = no_arguments; body = word_body variant; span = CallSite }) }
