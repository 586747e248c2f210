-- Which types a place takes that is read from an element, or from a part of one.
use Rattle.std.specs.Prelude.{ℕ, ◌==◌, Bool, true, false, ◌&&◌, List, [], ◌∷◌, Option, Some, None, is_some}
use Rattle.std.specs.List.{list_any}
use Rattle.codegen_program.specs.declared.forwarded.Magic.{Magic}
use Rattle.codegen_program.specs.declared.forwarded.Magic.TheVariants as magic
use Rattle.codegen_program.specs.declared.program.Derive.{Derive}
use Rattle.codegen_program.specs.declared.program.Derive.TheVariants as derive
use Rattle.machine_places.specs.declared.part.Part.{Part}
use Rattle.machine_places.specs.declared.part.Part.TheVariants as part
use Rattle.machine_places.specs.declared.place.OuterPlace.{OuterPlace}
use Rattle.machine_places.specs.declared.place.OuterPlace.TheVariants as place
use Rattle.machine_places.specs.declared.row.OuterRow.{OuterRow}
use Rattle.machine_places.specs.declared.row.OuterRow.TheFolds.{fold-OuterRow}
use Rattle.machine_places.specs.declared.row.OuterRow.TheOpen.{OuterRow-F}

-- the place of a field that takes a part of the element by its name, under the derive
abbrev pub part_place : Derive → Magic → OuterPlace
part_place derive.FromField magic.Ident = place.Part part.OptionalIdent
part_place _ magic.Ident = place.Part part.Ident
part_place _ magic.Attrs = place.Part part.Attributes
part_place _ magic.Vis = place.Part part.Visibility
part_place _ magic.Generics = place.Generics
part_place _ magic.Body = place.Body
part_place _ magic.Ty = place.Part part.Type
part_place _ magic.Discriminant = place.Part part.OptionalExpr
part_place _ magic.Fields = place.Fields
part_place _ magic.Bounds = place.Part part.Bounds
part_place _ magic.Default = place.Part part.OptionalType

-- the type that takes the whole of what is read, where there is one
abbrev pub whole_of : OuterPlace → Option Part
whole_of place.Input = Some part.DeriveInput
whole_of place.Field = Some part.Field
whole_of place.Variant = Some part.Variant
whole_of place.TypeParam = Some part.TypeParam
whole_of place.GenericParam = Some part.GenericParam
whole_of place.Generics = Some part.Generics
whole_of _ = None

-- the types that take it, or a part of it, as it stands
abbrev pub parts_at : OuterPlace → List Part
parts_at place.Input = part.DeriveInput ∷ []
parts_at place.Field = part.Field ∷ part.Type ∷ part.Visibility ∷ part.Attributes ∷ []
parts_at place.Variant = part.Variant ∷ part.Ident ∷ part.Attributes ∷ []
parts_at place.TypeParam = part.TypeParam ∷ part.Ident ∷ part.Attributes ∷ []
parts_at place.GenericParam = part.GenericParam ∷ []
parts_at place.Generics = part.Generics ∷ []
parts_at place.Attributes = part.Attributes ∷ []
parts_at place.Body = []
parts_at place.Fields = []
parts_at (place.Part it) = it ∷ []

-- the derive that reads it
abbrev pub derive_at : OuterPlace → Option Derive
derive_at place.Input = Some derive.FromDeriveInput
derive_at place.Field = Some derive.FromField
derive_at place.Variant = Some derive.FromVariant
derive_at place.TypeParam = Some derive.FromTypeParam
derive_at place.Attributes = Some derive.FromAttributes
derive_at _ = None

-- it is an element of syntax, and no list of attributes nor what a field takes by its name
abbrev pub is_node : OuterPlace → Bool
is_node at = is_some (whole_of at)

-- `()` is read of attributes too
abbrev pub takes_unit : OuterPlace → Bool
takes_unit place.Attributes = true
takes_unit at = is_node at

-- the type's number among all
abbrev pub index_of : Part → ℕ
index_of part.DeriveInput = 0
index_of part.Field = 1
index_of part.Variant = 2
index_of part.TypeParam = 3
index_of part.GenericParam = 4
index_of part.Generics = 5
index_of part.Attributes = 6
index_of part.Ident = 7
index_of part.OptionalIdent = 8
index_of part.Visibility = 9
index_of part.Type = 10
index_of part.OptionalType = 11
index_of part.OptionalExpr = 12
index_of part.Bounds = 13

abbrev pub same_part : Part → Part → Bool
same_part one other = index_of one == index_of other

abbrev pub whole_is : Option Part → Part → Bool
whole_is (Some whole) it = same_part whole it
whole_is None it = false

-- `reads` tells whether the declaration of a number may stand there and has the derive
module _ (reads : Derive → ℕ → Bool) where
  abbrev pub read_under : Option Derive → ℕ → Bool
  read_under (Some derive) number = reads derive number
  read_under None number = false

  -- the rows that a place takes, where each row inside tells what places take it
  abbrev pub layer_fits : OuterRow-F (OuterPlace → Bool) → OuterPlace → Bool
  layer_fits OuterRow-F.Unit at = takes_unit at
  layer_fits OuterRow-F.Ignored at = is_node at
  layer_fits (OuterRow-F.Part it) at = list_any (same_part it) (parts_at at)
  layer_fits (OuterRow-F.Declared number) at = read_under (derive_at at) number
  layer_fits (OuterRow-F.SpannedValue inner) at = is_node at && inner at
  layer_fits (OuterRow-F.WithOriginal inner original) at = whole_is (whole_of at) original && inner at
  layer_fits (OuterRow-F.Result inner) place.Generics = inner place.Generics
  layer_fits (OuterRow-F.Data variant field) place.Body = variant place.Variant && field place.Field
  layer_fits (OuterRow-F.Fields field) place.Fields = field place.Field
  layer_fits (OuterRow-F.Generics param) place.Generics = param place.GenericParam
  layer_fits (OuterRow-F.GenericParam type) place.TypeParam = type place.TypeParam
  layer_fits (OuterRow-F.GenericParam type) place.GenericParam = type place.TypeParam
  layer_fits _ at = false

  -- whether the place takes a type of the row
  abbrev pub fits_outer : OuterPlace → OuterRow → Bool
  fits_outer at row = fold-OuterRow (OuterPlace → Bool) layer_fits row at
