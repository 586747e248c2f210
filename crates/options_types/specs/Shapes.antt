-- The shapes that a receiver takes, as an option says them.
use Rattle.std.specs.Prelude.{Bool, List, [], ◌∷◌, Some, codes, if◌then◌else◌}
use Rattle.std.specs.List.{list_any}
use Rattle.std.specs.Str.{bytes_eq}
use Rattle.base_core.specs.declared.text.Text.{Text}
use Rattle.tok_types.specs.Ident.{ident_text}
use Rattle.tok_types.specs.declared.ident.Ident.{Ident}
use Rattle.node_expr.specs.declared.path.Path.{out-Path}
use Rattle.node_expr.specs.declared.path.PathSegment.{PathSegment, out-PathSegment}
use Rattle.node_core.specs.declared.attr.Meta.TheVariants as meta
use Rattle.error_fault.specs.Fault.{at_span}
use Rattle.error_fault.specs.Kind.{set_of}
use Rattle.error_fault.specs.Outcome.{Outcome, Value, Faults, on_value, refused}
use Rattle.error_fault.specs.declared.kind.FaultKind.TheVariants.{UnexpectedFormat, UnknownValue}
use Rattle.error_core.specs.Each.{each, every}
use Rattle.util_core.specs.Nodes.{nested_span}
use Rattle.util_core.specs.NestedMeta.{NestedMeta}
use Rattle.util_core.specs.NestedMeta.TheVariants as nested
use Rattle.util_core.specs.Cells.{Cells, no_cells}
use Rattle.codegen_program.specs.declared.shape.DataShape.{DataShape}
use Rattle.options_types.specs.declared.shapes.DeriveInputShapeSet.{DeriveInputShapeSet}

-- the words of `supports` where items are read
abbrev pub shape_words : List Text
shape_words =
    codes "any"
    ∷ codes "struct_any" ∷ codes "struct_named" ∷ codes "struct_newtype" ∷ codes "struct_tuple" ∷ codes "struct_unit"
    ∷ codes "enum_any" ∷ codes "enum_named" ∷ codes "enum_newtype" ∷ codes "enum_tuple" ∷ codes "enum_unit"
    ∷ []

-- whether the word is among these
abbrev pub has : List Text → Text → Bool
has words word = list_any (λ it. bytes_eq it word) words

-- whether it is a word of `supports`
abbrev pub is_shape_word : Text → Bool
is_shape_word word = list_any (λ it. bytes_eq word it) shape_words

-- a word of `supports`; another identifier is an unknown value, where it stands
abbrev pub known_word : Ident → Outcome Text
known_word ident =
    if is_shape_word (ident_text ident) then Value (ident_text ident)
    else Faults (at_span (UnknownValue (ident_text ident) (set_of [])) ident.span) []

-- an item that is no word, where it stands
abbrev pub non_word : NestedMeta → Outcome Text
non_word item = Faults (at_span (UnexpectedFormat (codes "non-word")) (nested_span item)) []

-- the word that a path begins with
abbrev pub first_word : NestedMeta → List PathSegment → Outcome Text
first_word item (segment ∷ more) = known_word (out-PathSegment segment).ident
first_word item [] = non_word item

abbrev pub shape_word : NestedMeta → Outcome Text
shape_word (nested.Meta (meta.Path path)) = first_word (nested.Meta (meta.Path path)) (out-Path path).segments
shape_word item = non_word item

-- the shapes of structs and of enums that the words name
abbrev pub struct_shape : List Text → DataShape
struct_shape words =
    record {
      any = has words (codes "struct_any");
      named = has words (codes "struct_named");
      newtype = has words (codes "struct_newtype");
      tuple = has words (codes "struct_tuple");
      unit = has words (codes "struct_unit");
    }

abbrev pub enum_shape : List Text → DataShape
enum_shape words =
    record {
      any = has words (codes "enum_any");
      named = has words (codes "enum_named");
      newtype = has words (codes "enum_newtype");
      tuple = has words (codes "enum_tuple");
      unit = has words (codes "enum_unit");
    }

abbrev pub shape_set : List Text → DeriveInputShapeSet
shape_set words = record { any = has words (codes "any"); struct_values = struct_shape words; enum_values = enum_shape words }

-- the words of a list; the first fault alone is told
abbrev pub shapes_cells : Cells DeriveInputShapeSet
shapes_cells = record no_cells { list = λ items. Some (on_value shape_set (each shape_word items)) }

-- the words of `supports` where variants are read, which say no kind of item
abbrev pub variant_words : List Text
variant_words = codes "any" ∷ codes "named" ∷ codes "newtype" ∷ codes "tuple" ∷ codes "unit" ∷ []

-- whether it is one of them
abbrev pub is_variant_word : Text → Bool
is_variant_word word = list_any (λ it. bytes_eq word it) variant_words

-- one of them; another identifier is an unknown value, which has no place of its own
abbrev pub known_variant_word : Ident → Outcome Text
known_variant_word ident =
    if is_variant_word (ident_text ident) then Value (ident_text ident)
    else refused (UnknownValue (ident_text ident) (set_of []))

-- the word that a path begins with
abbrev pub first_variant_word : NestedMeta → List PathSegment → Outcome Text
first_variant_word item (segment ∷ more) = known_variant_word (out-PathSegment segment).ident
first_variant_word item [] = non_word item

abbrev pub variant_word : NestedMeta → Outcome Text
variant_word (nested.Meta (meta.Path path)) = first_variant_word (nested.Meta (meta.Path path)) (out-Path path).segments
variant_word item = non_word item

-- the shapes of variants that the words name
abbrev pub variant_shape : List Text → DataShape
variant_shape words =
    record {
      any = has words (codes "any");
      named = has words (codes "named");
      newtype = has words (codes "newtype");
      tuple = has words (codes "tuple");
      unit = has words (codes "unit");
    }

-- the words of a list; all faults are told
abbrev pub variant_shapes_cells : Cells DataShape
variant_shapes_cells = record no_cells { list = λ items. Some (on_value variant_shape (every variant_word items)) }
