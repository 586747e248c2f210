-- The parts of elements that fields take by their names.
use Rattle.std.specs.Prelude.{Bool, true, false, cond, List, [], ◌∷◌, ◌++◌, codes, Option, Some, None, if◌then◌else◌}
use Rattle.std.specs.Str.{bytes_eq}
use Rattle.base_core.specs.declared.text.Text.{Text}
use Rattle.tok_types.specs.declared.ident.Ident.{Ident}
use Rattle.node_core.specs.declared.data.Field.{Field}
use Rattle.codegen_program.specs.declared.forwarded.Magic.{Magic}
use Rattle.codegen_program.specs.declared.forwarded.Magic.TheVariants as magic
use Rattle.codegen_program.specs.declared.program.Derive.{Derive}
use Rattle.codegen_program.specs.declared.program.Derive.TheVariants as derive

-- under every derive that reads elements
abbrev pub shared_parts : List (Text × Magic)
shared_parts = (codes "ident", magic.Ident) ∷ (codes "attrs", magic.Attrs) ∷ []

-- under one of them
abbrev pub own_parts : Derive → List (Text × Magic)
own_parts derive.FromMeta = []
own_parts derive.FromAttributes = []
own_parts derive.FromDeriveInput = (codes "vis", magic.Vis) ∷ (codes "generics", magic.Generics) ∷ (codes "data", magic.Body) ∷ []
own_parts derive.FromField = (codes "vis", magic.Vis) ∷ (codes "ty", magic.Ty) ∷ []
own_parts derive.FromTypeParam = (codes "bounds", magic.Bounds) ∷ (codes "default", magic.Default) ∷ []
own_parts derive.FromVariant = (codes "discriminant", magic.Discriminant) ∷ (codes "fields", magic.Fields) ∷ []

-- the part of this name
abbrev pub part_in : List (Text × Magic) → Text → Option Magic
part_in [] name = None
part_in (row ∷ rows) name = cond (bytes_eq name row.0) (Some row.1) (part_in rows name)

-- the part that a field of this name takes under a derive; metas have no parts
abbrev pub magic_named : Derive → Text → Option Magic
magic_named derive.FromMeta name = None
magic_named derive name = part_in (shared_parts ++ own_parts derive) name

-- a raw name is that of no part
abbrev pub magic_at : Derive → Option Ident → Option Magic
magic_at derive None = None
magic_at derive (Some ident) = if ident.raw then None else magic_named derive ident.text

-- the part that the field takes under a derive
abbrev pub magic_of : Derive → Field → Option Magic
magic_of derive field = magic_at derive field.ident

-- options say what converts the part; those of another part are not read
abbrev pub is_forwarded : Magic → Bool
is_forwarded magic.Ident = true
is_forwarded magic.Attrs = true
is_forwarded magic.Vis = false
is_forwarded magic.Generics = true
is_forwarded magic.Body = true
is_forwarded magic.Ty = false
is_forwarded magic.Discriminant = false
is_forwarded magic.Fields = true
is_forwarded magic.Bounds = false
is_forwarded magic.Default = false
