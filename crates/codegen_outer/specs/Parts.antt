-- The members that take a part of the element, and what reads those that are read beforehand.
use Rattle.std.specs.Prelude.{List, [], ◌∷◌, Option, Some, None}
use Rattle.tok_types.specs.declared.ident.Ident.{Ident}
use Rattle.codegen_program.specs.declared.forwarded.Forwarded.{Forwarded}
use Rattle.codegen_program.specs.declared.forwarded.Magic.{Magic}
use Rattle.codegen_program.specs.declared.stmt.Stmt.{Stmt}
use Rattle.codegen_program.specs.declared.stmt.Stmt.TheVariants as stmt
use Rattle.options_types.specs.declared.forwarded_field.ForwardedField.{ForwardedField}

-- the member that takes this part, as the options of its field say
abbrev pub taken_by : Magic → ForwardedField → Forwarded
taken_by what field = record { member = field.ident; what = what; with = field.with; ty = Some field.ty }

abbrev pub field_part : Magic → Option ForwardedField → List Forwarded
field_part what None = []
field_part what (Some field) = taken_by what field ∷ []

-- the member that takes this part as it stands
abbrev pub ident_part : Magic → Option Ident → List Forwarded
ident_part what None = []
ident_part what (Some ident) = record { member = ident; what = what; with = None; ty = None } ∷ []

-- reads the body, or the fields, into this field, where there is one
abbrev pub read_body : Option ForwardedField → List Stmt
read_body None = stmt.ReadBody None None ∷ []
read_body (Some field) = stmt.ReadBody (Some field.ident) field.with ∷ []

-- reads the generics into this field, where there is one
abbrev pub read_generics : Option ForwardedField → List Stmt
read_generics None = []
read_generics (Some field) = stmt.ReadGenerics field.ident field.with ∷ []
