-- The defaults of declarations: field by field, where every field's type has one.
use Rattle.std.specs.Prelude.{ℕ, zero, suc, ◌==◌, if◌then◌else◌, List, [], ◌∷◌, map, slice_get, Option, Some, None, option_map, option_and_then}
use Rattle.base_core.specs.declared.text.Text.{Text}
use Rattle.tok_types.specs.Ident.{ident_text}
use Rattle.tok_types.specs.declared.ident.Ident.{Ident}
use Rattle.node_expr.specs.declared.ty.«Type».{«Type» as Type'}
use Rattle.node_core.specs.declared.data.Field.{Field}
use Rattle.node_core.specs.declared.data.Fields.{Fields}
use Rattle.node_core.specs.declared.data.Fields.TheVariants as fields
use Rattle.node_core.specs.declared.data.«Data».{«Data»}
use Rattle.node_core.specs.declared.data.«Data».TheVariants as body
use Rattle.node_core.specs.declared.derive.DeriveInput.{DeriveInput}
use Rattle.node_core.specs.declared.style.Style.TheVariants as style
use Rattle.machine_rows.specs.Heads.{head_of}
use Rattle.machine_rows.specs.Rows.{row_of}
use Rattle.machine_rows.specs.declared.head.Head.{Head}
use Rattle.machine_rows.specs.declared.head.Head.TheVariants as head
use Rattle.machine_value.specs.declared.value.Value.{Value}
use Rattle.machine_value.specs.declared.value.Value.TheVariants as value
use Rattle.machine_cells.specs.Defaults.{row_default}
use Rattle.machine_host.specs.Decls.{decl_names, member_name}

abbrev pub with_first : {A : Type 0} → Option A → Option (List A) → Option (List A)
with_first (Some first) (Some more) = Some (first ∷ more)
with_first _ _ = None

-- all of them, where there is each
abbrev pub each_of : {A : Type 0} → List (Option A) → Option (List A)
each_of [] = Some []
each_of (first ∷ more) = with_first first (each_of more)

-- a member of the field's name, with the default of its type
abbrev pub member_default : (Type' → Option Value) → Field → Option (Text × Value)
member_default default_of field = option_map (λ it. (member_name field, it)) (default_of field.ty)

-- the value of a struct, whose members are the fields' defaults
abbrev pub struct_default : (Type' → Option Value) → Ident → List Field → Option Value
struct_default default_of ident named = option_map (value.Struct (ident_text ident) style.Struct) (each_of (map (member_default default_of) named))

abbrev pub named_of : Fields → Option (List Field)
named_of (fields.Named it) = Some it.named
named_of _ = None

-- the fields of a struct that has named fields; nothing else has a default
abbrev pub named_in : «Data» → Option (List Field)
named_in (body.Struct it) = named_of it.fields
named_in _ = None

-- the default of a declaration, where there is one
abbrev pub decl_default : (Type' → Option Value) → Option DeriveInput → Option Value
decl_default default_of (Some decl) = option_and_then (struct_default default_of decl.ident) (named_in decl.body)
decl_default default_of None = None

-- no type of the host has a default
abbrev pub none_of_host : Type' → Option Value
none_of_host host = None

-- the default of a type among the declarations that have these
abbrev pub type_default : List DeriveInput → (ℕ → Option Value) → Type' → Option Value
type_default decls declared ty = row_default declared none_of_host (row_of (decl_names decls) ty)

-- the default of the declaration of a number below the bound; its fields are of declarations before it
unfoldable pub default_below : List DeriveInput → ℕ → ℕ → Option Value
default_below decls zero number = None
default_below decls (suc bound) number =
    if number == bound then decl_default (type_default decls (default_below decls bound)) (slice_get decls bound) else default_below decls bound number

-- the default of the declaration of a number
abbrev pub default_among : List DeriveInput → ℕ → Option Value
default_among decls number = default_below decls (suc number) number

abbrev pub declared_in : Head Type' → Option ℕ
declared_in (head.Declared number) = Some number
declared_in _ = None

-- the default of a type that is a declaration
abbrev pub default_in : List DeriveInput → Type' → Option Value
default_in decls ty = option_and_then (default_among decls) (declared_in (head_of (decl_names decls) ty))
