-- Shapes of declarations: how fields are laid out, and sets of shapes.
use Rattle.std.specs.Prelude.{◌≡◌, ◌↔◌, IsTrue, ℕ, ◌==◌, Bool, false, not, ◌&&◌, ◌||◌, if◌then◌else◌, List, [], ◌∷◌, ◌++◌, length, filter, Option, Some, None, codes}
use Rattle.base_core.specs.declared.text.Text.{Text}
use Rattle.node_core.specs.declared.data.Fields.{Fields}
use Rattle.node_core.specs.declared.data.Fields.TheVariants as fields
use Rattle.error_fault.specs.Outcome.{Outcome, Value, refused}
use Rattle.error_fault.specs.declared.kind.FaultKind.TheVariants.{UnsupportedShape}
use Rattle.body_core.specs.declared.ast.fields.Fields.{Fields as Members}
use Rattle.node_core.specs.declared.style.Style.{Style}
use Rattle.node_core.specs.declared.style.Style.TheVariants as style
use Rattle.body_core.specs.declared.shape.Shape.{Shape}
use Rattle.body_core.specs.declared.shape.Shape.TheVariants as shape
use Rattle.body_core.specs.declared.shape.ShapeSet.{ShapeSet}

-- what a shape is called
abbrev pub description : Shape → Text
description shape.Named = codes "named fields"
description shape.Tuple = codes "unnamed fields"
description shape.Unit = codes "no fields"
description shape.Newtype = codes "one unnamed field"

-- the shape of so many members in parentheses: one alone is a newtype
abbrev pub tuple_shape : ℕ → Shape
tuple_shape count = if count == 1 then shape.Newtype else shape.Tuple

-- the shape of a node's fields
abbrev pub shape_of_fields : Fields → Shape
shape_of_fields (fields.Named it) = shape.Named
shape_of_fields (fields.Unnamed it) = tuple_shape (length it.unnamed)
shape_of_fields fields.Unit = shape.Unit

-- the shape of a container's members
abbrev pub shape_in : Style → ℕ → Shape
shape_in style.Struct count = shape.Named
shape_in style.Tuple count = tuple_shape count
shape_in style.Unit count = shape.Unit

abbrev pub shape_of : {A : Type 0} → Members A → Shape
shape_of it = shape_in it.style (length it.fields)

-- whether the set has this shape itself
abbrev pub has : ShapeSet → Shape → Bool
has set shape.Named = set.named
has set shape.Tuple = set.tuple
has set shape.Unit = set.unit
has set shape.Newtype = set.newtype

-- whether a declaration of this shape is in the set: a newtype is a tuple too
abbrev pub contains : ShapeSet → Shape → Bool
contains set shape.Newtype = has set shape.Newtype || has set shape.Tuple
contains set shape.Named = has set shape.Named
contains set shape.Tuple = has set shape.Tuple
contains set shape.Unit = has set shape.Unit

-- whether the text of the set shows this shape: beside tuples it shows no newtypes
abbrev pub is_shown : ShapeSet → Shape → Bool
is_shown set shape.Newtype = has set shape.Newtype && not (has set shape.Tuple)
is_shown set shape.Named = has set shape.Named
is_shown set shape.Tuple = has set shape.Tuple
is_shown set shape.Unit = has set shape.Unit

-- the shapes that the text of the set shows, in their order
abbrev pub shown_shapes : ShapeSet → List Shape
shown_shapes set = filter (is_shown set) (shape.Named ∷ shape.Tuple ∷ shape.Newtype ∷ shape.Unit ∷ [])

-- `nothing`, `a`, `a or b`, `a, b, or c`
abbrev pub alternatives : List Shape → Text
alternatives [] = codes "nothing"
alternatives (a ∷ []) = description a
alternatives (a ∷ b ∷ []) = description a ++ codes " or " ++ description b
alternatives (a ∷ b ∷ c ∷ more) = description a ++ codes ", " ++ description b ++ codes ", or " ++ description c

-- what the text shows of members in parentheses: tuples, else newtypes
abbrev pub widest_tuple : ShapeSet → Option Shape
widest_tuple set = if has set shape.Tuple then Some shape.Tuple else if has set shape.Newtype then Some shape.Newtype else None

-- the text of the set
abbrev pub set_text : ShapeSet → Text
set_text set = alternatives (shown_shapes set)

-- a declaration of this shape is taken exactly where the set contains it
abbrev pub checked : ShapeSet → Shape → Outcome (Unit {0})
checked set it = if contains set it then Value tt else refused (UnsupportedShape (description it) (Some (set_text set)))

-- the set has this shape and no other
abbrev pub HasOnly : ShapeSet → Shape → Type 0
HasOnly set it = (other : Shape) → IsTrue (has set other) ↔ (other ≡ it)

-- a set of tuples takes newtypes, and a set of newtypes takes no other tuples
pub record TuplesAreWider : Type 0 where
  pub newtypes : (set : ShapeSet) → HasOnly set shape.Tuple → IsTrue (contains set shape.Newtype)
  pub tuples : (set : ShapeSet) → HasOnly set shape.Newtype → contains set shape.Tuple ≡ false
