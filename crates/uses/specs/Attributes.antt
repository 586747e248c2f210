-- An attribute with another path, and the documentation in attributes.
use Rattle.std.specs.Prelude.{◌≡◌, ℕ, Bool, false, not, if◌then◌else◌, List, [], ◌++◌, codes, Option, Some, None}
use Rattle.syn_core.specs.Kinds.{string_in}
use Rattle.syn_core.specs.Layers.{ExprLayer}
use Rattle.syn_core.specs.Nodes.{Attribute, Expr, Expr-F, LitStr, Meta, Path, out-Expr}
use Rattle.syn_core.specs.Nodes.meta as meta
use Rattle.syn_core.specs.PathIdent.{ident_of}
use Rattle.syn_core.specs.Tokens.{Ident}
use Rattle.std.specs.Str.{bytes_eq}

abbrev pub renamed_meta : Meta → Path → Meta
renamed_meta (meta.Path old) path = meta.Path path
renamed_meta (meta.List list) path = meta.List (record list { path = path })
renamed_meta (meta.NameValue pair) path = meta.NameValue (record pair { path = path })

-- the attribute with this path before what it holds
abbrev pub renamed : Attribute → Path → Attribute
renamed attribute path = record attribute { meta = renamed_meta attribute.meta path }

-- ---- documentation

-- whether the identifier is `doc`
abbrev pub is_doc : Ident → Bool
is_doc ident = if bytes_eq ident.text (codes "doc") then not ident.raw else false

abbrev pub is_doc_path : Option Ident → Bool
is_doc_path None = false
is_doc_path (Some ident) = is_doc ident

abbrev pub string_of_layer : ExprLayer → Option LitStr
string_of_layer (Expr-F.Lit literal) = string_in literal
string_of_layer _ = None

-- the string that an expression is
abbrev pub string_of : Expr → Option LitStr
string_of expr = string_of_layer (out-Expr expr)

-- the string of `doc = "text"`
abbrev pub doc_meta : Meta → Option LitStr
doc_meta (meta.NameValue pair) = if is_doc_path (ident_of pair.path) then string_of pair.value else None
doc_meta _ = None

abbrev pub line_of : Option LitStr → List ℕ
line_of None = []
line_of (Some text) = text.value ++ codes "\n"

-- the documentation that the attribute is, with a line feed behind it
abbrev pub doc_in : Attribute → List ℕ
doc_in attribute = line_of (doc_meta attribute.meta)
