-- Whether an element has a shape that is taken.
use Rattle.std.specs.Prelude.{Bool, not, ◌||◌, if◌then◌else◌, List, [], ◌∷◌, ◌++◌, flat_map, Some, codes}
use Rattle.base_core.specs.declared.text.Text.{Text}
use Rattle.node_core.specs.declared.data.Fields.{Fields}
use Rattle.node_core.specs.declared.data.«Data».{«Data»}
use Rattle.node_core.specs.declared.data.«Data».TheVariants as body
use Rattle.error_fault.specs.Fault.{plain}
use Rattle.error_fault.specs.Outcome.{faults_of}
use Rattle.error_fault.specs.declared.fault.Fault.{Fault}
use Rattle.error_fault.specs.declared.kind.FaultKind.TheVariants.{UnsupportedShape}
use Rattle.body_core.specs.Shape.{checked, set_text, shape_of_fields}
use Rattle.body_core.specs.declared.shape.ShapeSet.{ShapeSet}
use Rattle.codegen_program.specs.declared.shape.DataShape.{DataShape}
use Rattle.codegen_program.specs.declared.shape.ShapeSpec.{ShapeSpec}
use Rattle.codegen_program.specs.declared.shape.ShapeSpec.TheVariants as shapes
use Rattle.machine_steps.specs.Elements.{Element, OnInput, OnVariant}

-- the set of the shapes that are named; `any` names all
abbrev pub shape_set : DataShape → ShapeSet
shape_set it =
    record { named = it.any || it.named; tuple = it.any || it.tuple; unit = it.any || it.unit; newtype = it.any || it.newtype }

-- the set has no shape
abbrev pub is_empty : ShapeSet → Bool
is_empty set = not (set.named || set.tuple || set.unit || set.newtype)

-- something of the one kind, where others are taken
abbrev pub unsupported : Text → Text → List Fault
unsupported observed expected = plain (UnsupportedShape observed (Some expected)) ∷ []

-- the shape of the fields is not in the set
abbrev pub fields_faults : ShapeSet → Fields → List Fault
fields_faults set it = faults_of (checked set (shape_of_fields it))

-- structs of some shapes are taken, and enums whose variants have some shapes
module _ (structs enums : ShapeSet) where
  abbrev pub struct_text : Text
  struct_text = codes "struct with " ++ set_text structs

  abbrev pub enum_text : Text
  enum_text = codes "enum with " ++ set_text enums

  -- what is taken in the place of a union
  abbrev pub any_text : Text
  any_text =
      if is_empty enums then struct_text
      else if is_empty structs then enum_text
      else struct_text ++ codes " or " ++ enum_text

  -- a struct of another shape, each variant of another shape, and a union
  abbrev pub body_faults : «Data» → List Fault
  body_faults (body.Struct it) = if is_empty structs then unsupported (codes "struct") enum_text else fields_faults structs it.fields
  body_faults (body.Enum it) =
      if is_empty enums then unsupported (codes "enum") struct_text
      else flat_map (λ variant. fields_faults enums variant.fields) it.variants
  body_faults (body.Union it) = unsupported (codes "union") any_text

-- items of a text are asked for the shape of their body, variants for that of their fields
abbrev pub shape_faults : ShapeSpec → Element → List Fault
shape_faults shapes.Any element = []
shape_faults (shapes.Body structs enums) (OnInput it) = body_faults (shape_set structs) (shape_set enums) it.body
shape_faults (shapes.Body structs enums) _ = []
shape_faults (shapes.Fields set) (OnVariant it) = fields_faults (shape_set set) it.fields
shape_faults (shapes.Fields set) _ = []
