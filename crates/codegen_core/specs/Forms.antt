-- Forms of declarations that have no program: their words, parameters, and paths that begin with the name by which generated
-- code calls `darling`.
use Rattle.std.specs.Prelude.{Bool, not, ◌==◌, ◌||◌, cond, if◌then◌else◌, List, [], ◌∷◌, length, option_map, slice_get, codes, Option, Some, None, is_none, is_some}
use Rattle.std.specs.Str.{bytes_eq}
use Rattle.base_core.specs.declared.text.Text.{Text}
use Rattle.tok_types.specs.declared.ident.Ident.{Ident}
use Rattle.node_expr.specs.Layers.{ExprLayer}
use Rattle.node_expr.specs.declared.expr.Expr.{Expr, out-Expr}
use Rattle.node_expr.specs.declared.expr.Expr.TheOpen.{Expr-F}
use Rattle.node_expr.specs.declared.expr.ExprPath.{out-ExprPath}
use Rattle.node_expr.specs.declared.path.Path.{Path, out-Path}
use Rattle.node_expr.specs.declared.path.PathSegment.{out-PathSegment}
use Rattle.node_core.specs.declared.generics.Generics.{Generics}
use Rattle.codegen_core.specs.declared.form.Form.{Form}
use Rattle.codegen_core.specs.declared.form.Form.TheVariants as form
use Rattle.codegen_core.specs.declared.form.Unsupported.{Unsupported}

abbrev pub words : Form → Text
words form.EmptyEnum = codes "empty enum"
words form.Tuple = codes "tuple"
words form.Generics = codes "generics"
words form.GeneratedName = codes "generated name"
words form.IdentUnderAttributes = codes "ident under FromAttributes"
words form.MagicBesideTransparent = codes "magic beside transparent"
words form.InheritedDefault = codes "inherited default"
words form.Transform = codes "transform"
words form.FromNone = codes "from_none"
words form.FromExpr = codes "from_expr"

-- the form at the identifier, where a test holds
abbrev pub form_if : Bool → Form → Ident → List Unsupported
form_if test form ident = cond test (record { form = form; span = ident.span } ∷ []) []

-- parameters, or a `where` clause
abbrev pub is_generic : Generics → Bool
is_generic generics = not (length generics.params == 0) || is_some generics.where_clause

-- the identifier that the path begins with; what is behind a leading `::` is none
abbrev pub first_ident : Path → Option Ident
first_ident path =
    if (out-Path path).leading_colon then None else option_map (λ segment. (out-PathSegment segment).ident) (slice_get (out-Path path).segments 0)

-- the name by which generated code calls `darling`
abbrev pub generated_start : Option Ident → List Unsupported
generated_start None = []
generated_start (Some ident) = form_if (bytes_eq ident.text (codes "_darling")) form.GeneratedName ident

-- a path that begins with that name
abbrev pub generated_path : Path → List Unsupported
generated_path path = generated_start (first_ident path)

-- the path that is called, where no type is in front of it
abbrev pub layer_path : ExprLayer → List Unsupported
layer_path (Expr-F.«Expr::Path» it) = if is_none (out-ExprPath it).qself then generated_path (out-ExprPath it).path else []
layer_path _ = []

-- a call of such a path
abbrev pub generated_call : Expr → List Unsupported
generated_call call = layer_path (out-Expr call)
