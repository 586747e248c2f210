-- The shapes that a statement looks for. A shape in it is not `any`: where the option says so, its four shapes are all set.
use Rattle.std.specs.Prelude.{false, ◌||◌, cond, Option, Some, None}
use Rattle.codegen_program.specs.declared.shape.DataShape.{DataShape}
use Rattle.codegen_program.specs.declared.shape.ShapeSpec.{ShapeSpec}
use Rattle.codegen_program.specs.declared.shape.ShapeSpec.TheVariants as shapes
use Rattle.options_types.specs.declared.shapes.DeriveInputShapeSet.{DeriveInputShapeSet}

-- the shapes one by one
abbrev pub each_shape : DataShape → DataShape
each_shape it =
    record {
      newtype = it.any || it.newtype;
      named = it.any || it.named;
      tuple = it.any || it.tuple;
      unit = it.any || it.unit;
      any = false;
    }

-- the shapes of items; without the option, every one
abbrev pub input_shapes : Option DeriveInputShapeSet → ShapeSpec
input_shapes None = shapes.Any
input_shapes (Some set) = cond set.any shapes.Any (shapes.Body (each_shape set.struct_values) (each_shape set.enum_values))

-- the shapes of variants; without the option, every one
abbrev pub variant_shapes : Option DataShape → ShapeSpec
variant_shapes None = shapes.Any
variant_shapes (Some shape) = shapes.Fields (each_shape shape)
