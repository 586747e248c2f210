-- The names of types that read an element, and none of them an item, held against the table in docs/CONVERSIONS.md and its order.
use Rattle.std.specs.Prelude.{ℕ, ◌==◌, ◌&&◌, if◌then◌else◌, List, [], ◌∷◌, codes, Option, Some, None}
use Rattle.std.specs.Str.{bytes_eq}
use Rattle.base_core.specs.declared.text.Text.{Text}
use Rattle.node_expr.specs.declared.path.PathSegment.{PathSegment}
use Rattle.machine_rows.specs.Paths.{stands_after}
use Rattle.machine_rows.specs.declared.name.Home.{Home}
use Rattle.machine_rows.specs.declared.name.Home.TheVariants as home
use Rattle.machine_places.specs.declared.name.OuterName.{OuterName}
use Rattle.machine_places.specs.declared.name.OuterName.TheVariants as name
use Rattle.machine_places.specs.declared.part.Part.TheVariants as part

-- the names, each with what it may stand after, the number of its arguments, and what it names
unfoldable pub names : List (List ℕ × Home × ℕ × OuterName)
names =
    (codes "DeriveInput", home.Syn, 0, name.Part part.DeriveInput) ∷
    (codes "Field", home.Syn, 0, name.Part part.Field) ∷
    (codes "Variant", home.Syn, 0, name.Part part.Variant) ∷
    (codes "GenericParam", home.Syn, 0, name.Part part.GenericParam) ∷
    (codes "Generics", home.Syn, 0, name.Part part.Generics) ∷
    (codes "Attribute", home.Syn, 0, name.Attribute) ∷
    (codes "TypeParamBound", home.Syn, 0, name.TypeParamBound) ∷
    (codes "Data", home.DarlingAst, 2, name.Data) ∷
    (codes "Fields", home.DarlingAst, 1, name.Fields) ∷
    (codes "Generics", home.DarlingAst, 1, name.Generics) ∷
    (codes "GenericParam", home.DarlingAst, 1, name.GenericParam) ∷
    []

-- what the table has at the name, with so many arguments, behind these segments
abbrev pub looked_up : List (List ℕ × Home × ℕ × OuterName) → List PathSegment → Text → ℕ → Option OuterName
looked_up [] before text arguments = None
looked_up ((name, home, count, it) ∷ rows) before text arguments =
    if (count == arguments) && (bytes_eq name text && stands_after home before) then Some it else looked_up rows before text arguments
