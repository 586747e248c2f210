-- What a function of a unit makes: the receiver, by the unit and the declaration of its number.
use Rattle.std.specs.Prelude.{cond, List, [], ◌∷◌, Option, Some, None, slice_get}
use Rattle.std.specs.Str.{bytes_eq}
use Rattle.base_core.specs.declared.text.Text.{Text}
use Rattle.tok_types.specs.Ident.{ident_text}
use Rattle.tok_types.specs.declared.ident.Ident.{Ident}
use Rattle.node_expr.specs.declared.ty.«Type».{«Type» as Type'}
use Rattle.node_core.specs.Bodies.{fields_in}
use Rattle.node_core.specs.Style.{style_of}
use Rattle.node_core.specs.declared.data.Field.{Field}
use Rattle.node_core.specs.declared.data.Variant.{Variant}
use Rattle.node_core.specs.declared.data.«Data».{«Data»}
use Rattle.node_core.specs.declared.data.«Data».TheVariants as body
use Rattle.node_core.specs.declared.derive.DeriveInput.{DeriveInput}
use Rattle.node_core.specs.declared.style.Style.{Style}
use Rattle.node_core.specs.declared.style.Style.TheVariants as style
use Rattle.codegen_program.specs.declared.program.Derive.{Derive}
use Rattle.codegen_program.specs.declared.program.«Unit».{«Unit» as Unit'}
use Rattle.machine_host.specs.Decls.{member_name}
use Rattle.machine_host.specs.Made.{named_type}
use Rattle.machine_steps.specs.Setting.{Setting}

-- the type that is made and its name, the derive that makes it, and the declaration, where there is one
pub record Receiver : Type 0 where
  pub type : Type'
  pub name : Text
  pub derive : Derive
  pub decl : Option DeriveInput

-- the type that a unit makes
abbrev pub unit_type : Unit' → Type'
unit_type unit = named_type unit.ident.text

abbrev pub receiver_of : Setting → Unit' → Receiver
receiver_of setting unit =
    record { type = unit_type unit; name = ident_text unit.ident; derive = unit.derive; decl = slice_get setting.decls unit.decl }

abbrev pub fields_by : Option DeriveInput → List Field
fields_by None = []
fields_by (Some decl) = fields_in decl.body

-- the fields of the struct that is made, in the order of the declaration; an enum has none of its own
abbrev pub declared_fields : Receiver → List Field
declared_fields receiver = fields_by receiver.decl

abbrev pub type_among : List Field → Text → Option Type'
type_among [] name = None
type_among (field ∷ fields) name = cond (bytes_eq (member_name field) name) (Some field.ty) (type_among fields name)

-- the declared type of the field of this name
abbrev pub declared_type : Receiver → Ident → Option Type'
declared_type receiver ident = type_among (declared_fields receiver) (ident_text ident)

abbrev pub body_style : «Data» → Style
body_style (body.Struct it) = style_of it.fields
body_style (body.Enum it) = style.Struct
body_style (body.Union it) = style.Struct

-- how the members of the struct that is made are written: as they are declared
abbrev pub declared_style : Option DeriveInput → Style
declared_style None = style.Struct
declared_style (Some decl) = body_style decl.body

abbrev pub variants_of : «Data» → List Variant
variants_of (body.Struct it) = []
variants_of (body.Enum it) = it.variants
variants_of (body.Union it) = []

-- the variants of the enum that is made; a struct has none
abbrev pub declared_variants : Option DeriveInput → List Variant
declared_variants None = []
declared_variants (Some decl) = variants_of decl.body
