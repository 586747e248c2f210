-- What fits a declaration, and so a type whose names are the declarations'.
use Rattle.std.specs.Prelude.{◌≡◌, ◌⊎◌, ℕ, zero, suc, ◌==◌, Bool, true, false, List, [], map, slice_get, Option, Some, None, unwrap_or, option_map, Contains}
use Rattle.std.specs.List.{AllZip}
use Rattle.base_core.specs.declared.text.Text.{Text}
use Rattle.tok_types.specs.Ident.{ident_text}
use Rattle.tok_types.specs.declared.ident.Ident.{Ident}
use Rattle.node_expr.specs.declared.ty.«Type».{«Type» as Type'}
use Rattle.node_core.specs.Bodies.{field_list}
use Rattle.node_core.specs.Style.{style_of}
use Rattle.node_core.specs.declared.data.Field.{Field}
use Rattle.node_core.specs.declared.data.Fields.{Fields}
use Rattle.node_core.specs.declared.data.Variant.{Variant}
use Rattle.node_core.specs.declared.data.«Data».{«Data»}
use Rattle.node_core.specs.declared.data.«Data».TheVariants as body
use Rattle.node_core.specs.declared.derive.DeriveInput.{DeriveInput}
use Rattle.machine_rows.specs.Rows.{element_of, row_of}
use Rattle.machine_value.specs.declared.value.Value.{Value}
use Rattle.machine_host.specs.Forms.{Form, Members, IsListOf, IsStructOf, IsVariantOf}
use Rattle.machine_host.specs.Fits.{FitsRow}

-- the name of a member as it is written; one by place has none
abbrev pub member_name : Field → Text
member_name field = unwrap_or (option_map ident_text field.ident) []

-- the names of the declarations
abbrev pub decl_names : List DeriveInput → List Ident
decl_names decls = map (λ decl. decl.ident) decls

-- a member of the field's name, whose value fits the field's type
abbrev pub IsMemberOf : (Type' → Form) → Field → Text × Value → Type 0
IsMemberOf FitsIn field member = (member.0 ≡ member_name field) × FitsIn field.ty member.1

-- a member for each field, in order
abbrev pub HasFields : (Type' → Form) → Fields → Members
HasFields FitsIn fields members = AllZip (IsMemberOf FitsIn) (field_list fields) members

-- the variant, with its members
abbrev pub IsOfVariant : (Type' → Form) → Ident → Variant → Form
IsOfVariant FitsIn ident variant = IsVariantOf (ident_text ident) (ident_text variant.ident) (style_of variant.fields) (HasFields FitsIn variant.fields)

-- a struct, or some variant of an enum, of this name; nothing fits a union
abbrev pub FitsBody : (Type' → Form) → Ident → «Data» → Form
FitsBody FitsIn ident (body.Struct it) value = IsStructOf (ident_text ident) (style_of it.fields) (HasFields FitsIn it.fields) value
FitsBody FitsIn ident (body.Enum it) value = (variant : Variant) × Contains it.variants variant × IsOfVariant FitsIn ident variant value
FitsBody FitsIn ident (body.Union it) value = ⊥

-- a value of the declaration, where there is one
abbrev pub FitsDecl : (Type' → Form) → Option DeriveInput → Form
FitsDecl FitsIn (Some decl) value = FitsBody FitsIn decl.ident decl.body value
FitsDecl FitsIn None value = ⊥

-- a list of what fits the type of its elements, where there is one
abbrev pub FitsElements : (ℕ → Form) → List Ident → Option Type' → Form
FitsElements FitsNumber names (Some element) value = IsListOf (FitsRow FitsNumber (row_of names element)) value
FitsElements FitsNumber names None value = ⊥

-- What fits a type among declarations of these names: what the type is read as, or at a `Vec<T>` a list of what fits `T`.
abbrev pub FitsType : (ℕ → Form) → List Ident → Type' → Form
FitsType FitsNumber names ty value = FitsRow FitsNumber (row_of names ty) value ⊎ FitsElements FitsNumber names (element_of names ty) value

-- the first or the second, by a test
abbrev pub Either : Bool → Type 0 → Type 0 → Type 0
Either true First Second = First
Either false First Second = Second

-- what fits the declaration of a number below the bound; its members are of declarations before it
unfoldable pub FitsBelow : List DeriveInput → ℕ → ℕ → Form
FitsBelow decls zero number value = ⊥
FitsBelow decls (suc bound) number value =
    Either (number == bound)
    (FitsDecl (FitsType (FitsBelow decls bound) (decl_names decls)) (slice_get decls bound) value)
    (FitsBelow decls bound number value)

-- what fits the declaration of a number
abbrev pub FitsAmong : List DeriveInput → ℕ → Form
FitsAmong decls number = FitsBelow decls (suc number) number

-- what fits a type, a name of a declaration being that declaration
abbrev pub Fits : List DeriveInput → Type' → Form
Fits decls ty = FitsType (FitsAmong decls) (decl_names decls) ty
