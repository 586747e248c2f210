-- The row of a `Vec`, and those of the types of its elements that stand bare.
use Rattle.std.proofs.Common.{◌≡◌, ◌∙◌, false, if◌then◌else◌, List, Option, Some, refl, ap, ap₂}
use Rattle.std.proofs.lemmas.Option.{none-some, same_Some}
use Rattle.tok_types.specs.declared.ident.Ident.{Ident}
use Rattle.node_expr.specs.declared.expr.Expr.TheOpen.{Type-F}
use Rattle.node_expr.specs.declared.ty.«Type».{«Type» as Type', out-Type}
use Rattle.node_expr.specs.Layers.{TypeLayer}
use Rattle.machine_rows.specs.declared.arguments.Arguments.{Arguments}
use Rattle.machine_rows.specs.declared.arguments.Arguments.TheVariants as arguments
use Rattle.machine_rows.specs.declared.head.Head.{Head}
use Rattle.machine_rows.specs.declared.head.Head.TheVariants as head
use Rattle.machine_rows.specs.declared.leaf.Leaf.{Leaf}
use Rattle.machine_rows.specs.declared.leaf.VecItem.{VecItem}
use Rattle.machine_rows.specs.declared.name.Name.{Name}
use Rattle.machine_rows.specs.declared.name.Name.TheVariants as name
use Rattle.machine_rows.specs.declared.path.Meant.{Meant}
use Rattle.machine_rows.specs.declared.path.Meant.TheVariants as meants
use Rattle.machine_rows.specs.declared.row.Row.TheVariants as row
use Rattle.machine_rows.specs.Arguments.{last_arguments}
use Rattle.machine_rows.specs.Heads.{bare_in, bare_name, head_of, layer_is_unit, list_head, list_of, named_head}
use Rattle.machine_rows.specs.Items.{vec_item}
use Rattle.machine_rows.specs.Paths.{layer_segments, meant_by, segments_in}
use Rattle.machine_rows.specs.Rows.{element_of, row_at, row_by, row_of, vec_element}

-- ---- heads

-- `()` has no path
not_unit : (decls : List Ident) (layer : TypeLayer) (it : Name) → meant_by decls (layer_segments layer) ≡ meants.Table it → layer_is_unit layer ≡ false
not_unit decls (Type-F.«Type::Tuple» tuple) it e = absurd cc
not_unit decls _ it e = refl

-- the head of a type whose path names something of the table
head_named : (decls : List Ident) (type : Type') (it : Name) (args : Arguments Type') → meant_by decls (segments_in type) ≡ meants.Table it → last_arguments (segments_in type) ≡ args
    → head_of decls type ≡ named_head decls (meants.Table it) args
head_named decls type it args e a =
    ap (λ unit. if unit then head.Unit else named_head decls (meant_by decls (segments_in type)) (last_arguments (segments_in type))) (not_unit decls (out-Type type) it e)
    ∙ ap₂ (named_head decls) e a

vec_element-is : (it : Meant) (args : Arguments Type') (element : Type') → vec_element it args ≡ Some element → (it ≡ meants.Table name.Vec) × (args ≡ arguments.One element)
vec_element-is (meants.Table name.Vec) (arguments.One it) element e = (refl, ap arguments.One (same_Some it element e))
vec_element-is _ _ element e = absurd (none-some element e)

bare_in-is : (it : Meant) (args : Arguments Type') (n : Name) → bare_in it args ≡ Some n → (it ≡ meants.Table n) × (args ≡ arguments.Bare)
bare_in-is (meants.Table it) arguments.Bare n e = (ap meants.Table (same_Some it n e), refl)
bare_in-is _ _ n e = absurd (none-some n e)

-- what a bare name names
pub bare_means : (decls : List Ident) (type : Type') (it : Name) → bare_name decls type ≡ Some it → meant_by decls (segments_in type) ≡ meants.Table it
bare_means decls type it e = (bare_in-is (meant_by decls (segments_in type)) (last_arguments (segments_in type)) it e).0

-- the head of a bare name
pub bare_head : (decls : List Ident) (type : Type') (it : Name) → bare_name decls type ≡ Some it → head_of decls type ≡ named_head decls (meants.Table it) arguments.Bare
bare_head decls type it e =
    let is = bare_in-is (meant_by decls (segments_in type)) (last_arguments (segments_in type)) it e in
    head_named decls type it arguments.Bare is.0 is.1

-- the head of a `Vec`
pub vec_head : (decls : List Ident) (type element : Type') → element_of decls type ≡ Some element → head_of decls type ≡ list_head (bare_name decls element) element
vec_head decls type element e =
    let is = vec_element-is (meant_by decls (segments_in type)) (last_arguments (segments_in type)) element e in
    head_named decls type name.Vec (arguments.One element) is.0 is.1

-- ---- rows

row_by-head : (decls : List Ident) (type : Type') (it : Head Type') → head_of decls type ≡ it → row_of decls type ≡ row_by (row_at decls 255) type it
unfolding row_of
row_by-head decls type it e = ap (row_by (row_at decls 255) type) e

-- the row of a bare type of the table that holds no type
pub bare_leaf : (decls : List Ident) (type : Type') (it : Leaf) → bare_name decls type ≡ Some (name.Leaf it) → row_of decls type ≡ row.Leaf it
bare_leaf decls type it e = row_by-head decls type (head.Leaf it) (bare_head decls type (name.Leaf it) e)

-- no type of the table reads one predicate
pub bare_predicate : (decls : List Ident) (type : Type') → bare_name decls type ≡ Some name.WherePredicate → row_of decls type ≡ row.Host type
bare_predicate decls type e = row_by-head decls type head.Host (bare_head decls type name.WherePredicate e)

-- the row of a `Vec`, by how its elements are read
pub vec_row_is : (decls : List Ident) (type element : Type') (item : Option VecItem) → element_of decls type ≡ Some element → vec_item (bare_name decls element) ≡ item
    → row_of decls type ≡ row_by (row_at decls 255) type (list_of item element)
vec_row_is decls type element item e is = row_by-head decls type (list_of item element) (vec_head decls type element e ∙ ap (λ it. list_of it element) is)
