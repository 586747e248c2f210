-- The fields of a body.
use Rattle.std.specs.Prelude.{Bool, true, false, List, []}
use Rattle.node_core.specs.declared.data.Field.{Field}
use Rattle.node_core.specs.declared.data.Fields.{Fields}
use Rattle.node_core.specs.declared.data.Fields.TheVariants as fields
use Rattle.node_core.specs.declared.data.«Data».{«Data»}
use Rattle.node_core.specs.declared.data.«Data».TheVariants as body

-- the fields in order, with names or without
abbrev pub field_list : Fields → List Field
field_list (fields.Named it) = it.named
field_list (fields.Unnamed it) = it.unnamed
field_list fields.Unit = []

-- the fields of a struct or of a union in order; an enum has none of its own
abbrev pub fields_in : «Data» → List Field
fields_in (body.Struct it) = field_list it.fields
fields_in (body.Enum it) = []
fields_in (body.Union it) = it.fields.named

-- whether the body is a struct's
abbrev pub is_struct : «Data» → Bool
is_struct (body.Struct it) = true
is_struct (body.Enum it) = false
is_struct (body.Union it) = false

-- whether the body is an enum's
abbrev pub is_enum : «Data» → Bool
is_enum (body.Struct it) = false
is_enum (body.Enum it) = true
is_enum (body.Union it) = false

-- whether the body is a union's
abbrev pub is_union : «Data» → Bool
is_union (body.Struct it) = false
is_union (body.Enum it) = false
is_union (body.Union it) = true
