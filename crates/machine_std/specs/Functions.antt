-- The functions of the program's host: where each is asked, by what name, for which types, and what it answers.
use Rattle.std.specs.Prelude.{◌^◌, Bool, true, false, if◌then◌else◌, ◌&&◌, ◌||◌, nat_lt, List, [], ◌∷◌, length, codes, Option, Some, None, is_none, option_and_then}
use Rattle.std.specs.List.{find}
use Rattle.std.specs.Str.{bytes_eq}
use Rattle.base_core.specs.declared.text.Text.{Text}
use Rattle.tok_types.specs.Ident.{ident_text}
use Rattle.node_expr.specs.Layers.{ExprLayer}
use Rattle.node_expr.specs.declared.expr.Expr.{out-Expr}
use Rattle.node_expr.specs.declared.expr.Expr.TheOpen.{Expr-F}
use Rattle.node_expr.specs.declared.expr.ExprPath.{out-ExprPath}
use Rattle.node_expr.specs.declared.path.Path.{Path}
use Rattle.node_expr.specs.declared.ty.«Type».{«Type» as Type'}
use Rattle.node_make.specs.PathText.{path_text}
use Rattle.node_core.specs.Meta.{path_of_meta}
use Rattle.node_core.specs.declared.derive.DeriveInput.{DeriveInput}
use Rattle.codegen_program.specs.declared.callable.Callable.{Callable}
use Rattle.machine_rows.specs.Heads.{head_of}
use Rattle.machine_rows.specs.declared.head.Head.{Head}
use Rattle.machine_rows.specs.declared.head.Head.TheVariants as head
use Rattle.machine_rows.specs.declared.leaf.Integer.TheVariants as integer
use Rattle.machine_rows.specs.declared.leaf.Leaf.{Leaf}
use Rattle.machine_rows.specs.declared.leaf.Leaf.TheVariants as leaf
use Rattle.machine_value.specs.declared.value.Value.{Value, out-Value}
use Rattle.machine_value.specs.declared.value.Value.TheOpen.{Value-F}
use Rattle.machine_value.specs.declared.value.Value.TheVariants as value
use Rattle.machine_cells.specs.Values.{natural}
use Rattle.machine_host.specs.Decls.{decl_names}
use Rattle.machine_host.specs.Made.{custom}
use Rattle.machine_host.specs.Seen.{SeenArg, MetaSeen, ValueSeen, IdentSeen, AttrsSeen}
use Rattle.machine_host.specs.declared.place.Place.{Place}
use Rattle.machine_host.specs.declared.place.Use.{Use}
use Rattle.machine_host.specs.declared.place.Use.TheVariants as use_at
use Rattle.machine_host.specs.declared.said.Said.{Said}
use Rattle.machine_host.specs.declared.said.Said.TheVariants as said
use Rattle.machine_std.specs.Texts.{trimmed}
use Rattle.machine_std.specs.declared.function.Function.{Function}
use Rattle.machine_std.specs.declared.function.Function.TheVariants as function

-- What is offered at a place: the text of a path, the types of the table that it gives, and what it answers.
pub record Offer : Type 0 where
  pub name : Text
  pub gives : Leaf → Bool
  pub answer : SeenArg → Said

-- ---- the types that are given

-- `String`
abbrev pub is_string : Leaf → Bool
is_string leaf.String = true
is_string _ = false

-- the twelve integers
abbrev pub is_integer : Leaf → Bool
is_integer (leaf.Integer it) = true
is_integer _ = false

-- `usize`
abbrev pub is_usize : Leaf → Bool
is_usize (leaf.Integer integer.Usize) = true
is_usize _ = false

-- ---- the answers

-- what no function is asked: an argument of another place, or more attributes than there can be
abbrev pub unasked : Said
unasked = custom (codes "the function is not asked so")

-- a text
abbrev pub text_said : Text → Said
text_said text = said.Given (value.Text text)

abbrev pub on_layer : (Text → Said) → Value-F Value → Said
on_layer answer (Value-F.Text text) = answer text
on_layer answer _ = unasked

-- the answer to a value that is a text
abbrev pub on_text : (Text → Said) → SeenArg → Said
on_text answer (ValueSeen it) = on_layer answer (out-Value it)
on_text answer _ = unasked

-- the text, which must not be empty
abbrev pub nonempty_said : Text → Said
nonempty_said [] = custom (codes "must not be empty")
nonempty_said (first ∷ more) = text_said (first ∷ more)

-- the text of a meta's path
abbrev pub path_said : SeenArg → Said
path_said (MetaSeen it) = text_said (path_text (path_of_meta it))
path_said _ = unasked

-- an identifier's text
abbrev pub ident_said : SeenArg → Said
ident_said (IdentSeen it) = text_said (ident_text it)
ident_said _ = unasked

-- the number of the attributes, which are fewer than 2^64
abbrev pub count_said : SeenArg → Said
count_said (AttrsSeen attrs) = if nat_lt (length attrs) (2 ^ 64) then said.Given (natural (length attrs)) else unasked
count_said _ = unasked

-- ---- the table

abbrev pub offer_of : Function → Offer
offer_of function.Trim = record { name = codes "text::trim"; gives = is_string; answer = on_text (λ text. text_said (trimmed text)) }
offer_of function.Nonempty = record { name = codes "text::nonempty"; gives = is_string; answer = on_text nonempty_said }
offer_of function.Star = record { name = codes "text::star"; gives = is_string; answer = λ arg. text_said (codes "*") }
offer_of function.One = record { name = codes "num::one"; gives = is_integer; answer = λ arg. said.Given (natural 1) }
offer_of function.PathText = record { name = codes "meta::path_text"; gives = is_string; answer = path_said }
offer_of function.IdentText = record { name = codes "ident::text"; gives = is_string; answer = ident_said }
offer_of function.Count = record { name = codes "attrs::count"; gives = is_usize; answer = count_said }

-- the functions that are offered at a place, whatever their types
abbrev pub offered_at : Use → List Offer
offered_at use_at.Map = offer_of function.Trim ∷ []
offered_at use_at.AndThen = offer_of function.Nonempty ∷ []
offered_at use_at.Default = offer_of function.Star ∷ offer_of function.One ∷ []
offered_at use_at.With = offer_of function.PathText ∷ []
offered_at use_at.Ident = offer_of function.IdentText ∷ []
offered_at use_at.Attrs = offer_of function.Count ∷ []
offered_at _ = []

-- ---- what is asked

abbrev pub layer_path : ExprLayer → Option Path
layer_path (Expr-F.«Expr::Path» it) = if is_none (out-ExprPath it).qself then Some (out-ExprPath it).path else None
layer_path _ = None

-- the path that a callable is, where no type stands in front
abbrev pub path_in : Callable → Option Path
path_in callable = layer_path (out-Expr callable.call)

abbrev pub is_path_of : Text → Option Path → Bool
is_path_of name (Some path) = bytes_eq name (path_text path)
is_path_of name None = false

-- the callable is the function of this path, as `text::trim`
abbrev pub is_function : Text → Option Callable → Bool
is_function name call = is_path_of name (option_and_then path_in call)

abbrev pub head_leaf : Head Type' → Option Leaf
head_leaf (head.Leaf it) = Some it
head_leaf _ = None

-- the type of the table that a type is, where it holds no type that is read on its own
abbrev pub leaf_in : List DeriveInput → Type' → Option Leaf
leaf_in decls ty = head_leaf (head_of (decl_names decls) ty)

-- the first of the offers that has the name and gives the type
abbrev pub chosen : Text → Leaf → List Offer → Option Offer
chosen name it offers = find (λ offer. bytes_eq offer.name name && offer.gives it) offers

-- what is offered for a path at a place
abbrev pub offer_by : Use → Option Path → Option Leaf → Option Offer
offer_by at (Some path) (Some it) = chosen (path_text path) it (offered_at at)
offer_by at _ _ = None

-- what is offered for a callable at a place
abbrev pub offer_for : List DeriveInput → Option Callable → Place → Option Offer
offer_for decls call place = offer_by place.at (option_and_then path_in call) (leaf_in decls place.ty)

-- a `map` and an `and_then` are functions that take a value
abbrev pub is_transform : Path → Bool
is_transform path = bytes_eq (offer_of function.Trim).name (path_text path) || bytes_eq (offer_of function.Nonempty).name (path_text path)
