-- The units that declarations compile to, by the form of the declaration.
use Rattle.std.specs.Prelude.{◌≡◌, ℕ, Bool, false, ◌&&◌, List, [], ◌∷◌, ◌++◌, Option, Some, None, length, option_and_then, map, codes, if◌then◌else◌}
use Rattle.std.specs.Option.{option_copied}
use Rattle.std.specs.Str.{bytes_eq}
use Rattle.tok_types.specs.Ident.{ident_text}
use Rattle.tok_types.specs.declared.ident.Ident.{Ident}
use Rattle.node_expr.specs.PathIdent.{segments_ident}
use Rattle.node_expr.specs.declared.path.Path.{Path, out-Path}
use Rattle.node_core.specs.declared.style.Style.{Style}
use Rattle.node_core.specs.declared.style.Style.TheVariants as style
use Rattle.body_core.specs.declared.ast.data.«Data».{«Data»}
use Rattle.body_core.specs.declared.ast.data.«Data».TheVariants as body
use Rattle.body_core.specs.declared.ast.fields.Fields.{Fields}
use Rattle.codegen_program.specs.declared.arm.PostfixTransform.{PostfixTransform}
use Rattle.codegen_program.specs.declared.callable.Callable.{Callable}
use Rattle.codegen_program.specs.declared.forwarded.Forwarded.{Forwarded}
use Rattle.codegen_program.specs.declared.init.DefaultSource.{DefaultSource}
use Rattle.codegen_program.specs.declared.init.DefaultSource.TheVariants as sources
use Rattle.codegen_program.specs.declared.program.Derive.{Derive}
use Rattle.codegen_program.specs.declared.program.Derive.TheVariants as derives
use Rattle.codegen_program.specs.declared.program.Func.{Func}
use Rattle.codegen_program.specs.declared.program.FuncName.{FuncName}
use Rattle.codegen_program.specs.declared.program.FuncName.TheVariants as func
use Rattle.codegen_program.specs.declared.program.«Unit».{«Unit» as Unit'}
use Rattle.codegen_program.specs.declared.stmt.Stmt.{Stmt}
use Rattle.codegen_program.specs.declared.stmt.Stmt.TheVariants as stmt
use Rattle.codegen_core.specs.declared.field.Field.{Field}
use Rattle.codegen_core.specs.declared.from_meta_impl.FromMetaImpl.{FromMetaImpl}
use Rattle.codegen_core.specs.declared.trait_impl.TraitImpl.{TraitImpl}
use Rattle.codegen_core.specs.declared.variant.Variant.{Variant}
use Rattle.codegen_core.specs.Defaults.{source}
use Rattle.codegen_core.specs.Fields.{core_loop, declarations, flattens, checks, inits}
use Rattle.codegen_core.specs.Variants.{member_name, slots_in, transparent_field, unit_arms, variant_arms, variant_names}

-- the fields of a body; an enum has none of its own
abbrev pub struct_fields : «Data» Variant Field → List Field
struct_fields (body.Enum variants) = []
struct_fields (body.Struct it) = it.fields

-- the fields of a struct
abbrev pub fields_of : TraitImpl → List Field
fields_of base = struct_fields base.body

-- the body is that of a struct with named fields
abbrev pub HasNamedFields : «Data» Variant Field → Type 0
HasNamedFields (body.Enum variants) = ⊥
HasNamedFields (body.Struct it) = it.style ≡ style.Struct

-- a struct of named fields that is not read as its one field is
abbrev pub IsPlain : TraitImpl → Type 0
IsPlain base = HasNamedFields base.body × (base.transparent ≡ false)

-- goes over the items of one attribute or list
abbrev pub for_items : TraitImpl → Stmt
for_items base = core_loop base.allow_unknown_fields (fields_of base)

-- what the default of the whole receiver comes from
abbrev pub default_of : Bool → TraitImpl → Option DefaultSource
default_of from_ident base = if from_ident then Some sources.FromIdent else option_and_then source base.default

-- makes the default of the whole receiver, where it has one
abbrev pub set_default : Option DefaultSource → List Stmt
set_default None = []
set_default (Some it) = stmt.SetDefault it ∷ []

-- builds the receiver from these parts of the element and from its slots
abbrev pub build_with : List Forwarded → TraitImpl → Stmt
build_with parts base = stmt.Build base.ident.now None parts (inits (fields_of base))

-- builds the receiver from its slots alone
abbrev pub build : TraitImpl → Stmt
build base = build_with [] base

-- hands what was built to the function that the options name
abbrev pub transform : Option PostfixTransform → List Stmt
transform None = []
transform (Some it) = stmt.Transform it ∷ []

-- what follows once the items are read, where these parts of the element are taken
abbrev pub closing_with : List Forwarded → Bool → TraitImpl → List Stmt
closing_with parts from_ident base =
    flattens (fields_of base)
    ++ (checks (fields_of base)
    ++ (stmt.CheckErrors None
    ∷ (set_default (default_of from_ident base) ++ (build_with parts base ∷ transform (option_copied base.post_transform)))))

-- the same where no part is taken
abbrev pub closing : Bool → TraitImpl → List Stmt
closing from_ident base = closing_with [] from_ident base

-- the statements of `from_list`
abbrev pub list_stmts : TraitImpl → List Stmt
list_stmts base = declarations (fields_of base) ++ (stmt.DeclareErrors ∷ (for_items base ∷ closing false base))

-- whether the identifier is written `darling`
abbrev pub is_darling : Ident → Bool
is_darling ident = bytes_eq (ident_text ident) (codes "darling")

-- whether the path of this one identifier, if it has one, is `darling`
abbrev pub is_darling_alone : Option Ident → Bool
is_darling_alone None = false
is_darling_alone (Some ident) = is_darling ident

-- whether the path is `::darling`
abbrev pub is_usual : Path → Bool
is_usual path = (out-Path path).leading_colon && is_darling_alone (segments_ident (out-Path path).segments)

-- the path to `darling`, where it is not the usual one
abbrev pub other_krate : Option Path → Option Path
other_krate None = None
other_krate (Some path) = if is_usual path then None else Some path

-- the unit of these functions
abbrev pub unit_with : ℕ → Derive → TraitImpl → Bool → List Func → Unit'
unit_with decl derive base parse_impl funcs =
    record {
      decl = decl;
      derive = derive;
      ident = base.ident.now;
      generics = base.generics.now;
      krate = other_krate (option_copied base.krate);
      parse_impl = parse_impl;
      funcs = funcs;
    }

-- ---- `FromMeta`

-- the number of slots of a body
abbrev pub slot_count : «Data» Variant Field → ℕ
slot_count (body.Enum variants) = slots_in variants
slot_count (body.Struct it) = length it.fields

-- the function that answers what the callable gives, where there is one
abbrev pub call_func : FuncName → Option Callable → List Func
call_func name None = []
call_func name (Some callable) = record { name = name; stmts = stmt.Call callable name ∷ [] } ∷ []

abbrev pub call_funcs : FromMetaImpl → List Func
call_funcs it =
    call_func func.FromWord it.from_word
    ++ call_func func.FromNone (option_copied it.from_none)
    ++ call_func func.FromExpr (option_copied it.from_expr)

-- a struct that is read as this one field is
abbrev pub whole_funcs : TraitImpl → Style → Field → List Func
whole_funcs base style field =
    record { name = func.FromMeta; stmts = stmt.Delegate base.ident.now (member_name style field) field.ty.now ∷ [] } ∷ []

-- a unit struct: a word is the struct
abbrev pub unit_funcs : TraitImpl → List Func
unit_funcs base = record { name = func.FromWord; stmts = build base ∷ [] } ∷ []

-- a struct that is read field by field
abbrev pub list_funcs : FromMetaImpl → List Func
list_funcs it = call_funcs it ++ record { name = func.FromList; stmts = list_stmts it.base } ∷ []

-- no tuple of several members, or of none, has a program
abbrev pub own_funcs : Style → FromMetaImpl → List Func
own_funcs style.Tuple it = list_funcs it
own_funcs style.Struct it = list_funcs it
own_funcs style.Unit it = unit_funcs it.base

abbrev pub funcs_by : Option Field → Style → FromMetaImpl → List Func
funcs_by (Some field) style it = whole_funcs it.base style field
funcs_by None style it = own_funcs style it

abbrev pub struct_funcs : FromMetaImpl → Fields Field → List Func
struct_funcs it fields = funcs_by (transparent_field it.base.transparent fields.style fields.fields) fields.style it

-- an enum: from a list, from a string, and what callables answer
abbrev pub enum_funcs : FromMetaImpl → List Variant → List Func
enum_funcs it variants =
    record { name = func.FromList; stmts = stmt.Variants (variant_arms 0 variants) (variant_names variants) ∷ [] }
    ∷ (record { name = func.FromString; stmts = stmt.UnitNames (unit_arms variants) (variant_names variants) ∷ [] } ∷ call_funcs it)

abbrev pub funcs_in : FromMetaImpl → «Data» Variant Field → List Func
funcs_in it (body.Enum variants) = enum_funcs it variants
funcs_in it (body.Struct fields) = struct_funcs it fields

abbrev pub meta_funcs : FromMetaImpl → List Func
meta_funcs it = funcs_in it it.base.body

-- the unit of `FromMeta`
abbrev pub compiled_meta : FromMetaImpl → ℕ → Unit'
compiled_meta it decl = unit_with decl derives.FromMeta it.base it.derive_syn_parse (meta_funcs it)

-- the unit of a struct that is read field by field, and of which no callable is asked
abbrev pub compiled_list : FromMetaImpl → ℕ → Unit'
compiled_list it decl =
    unit_with decl derives.FromMeta it.base it.derive_syn_parse (record { name = func.FromList; stmts = list_stmts it.base } ∷ [])

-- a struct that is read field by field, and of which no callable is asked
pub record IsListed (it : FromMetaImpl) : Type 0 where
  pub plain : IsPlain it.base
  pub word : it.from_word ≡ None
  pub none : option_copied it.from_none ≡ None
  pub expr : option_copied it.from_expr ≡ None
