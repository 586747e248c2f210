-- The units of outer derives: one function, whose order is the same under each.
use Rattle.std.specs.Prelude.{ℕ, Bool, true, false, cond, List, [], ◌∷◌, ◌++◌, Option, Some, None, map}
use Rattle.std.specs.Option.{option_copied}
use Rattle.base_core.specs.declared.text.Text.{Text}
use Rattle.node_expr.specs.declared.path.Path.{Path}
use Rattle.node_make.specs.PathText.{path_text}
use Rattle.node_core.specs.declared.style.Style.{Style}
use Rattle.body_core.specs.declared.ast.data.«Data».{«Data»}
use Rattle.body_core.specs.declared.ast.data.«Data».TheVariants as body
use Rattle.body_core.specs.declared.ast.fields.Fields.{Fields}
use Rattle.codegen_program.specs.declared.forward.Forward.{Forward}
use Rattle.codegen_program.specs.declared.program.Derive.{Derive}
use Rattle.codegen_program.specs.declared.program.Derive.TheVariants as derives
use Rattle.codegen_program.specs.declared.program.FuncName.{FuncName}
use Rattle.codegen_program.specs.declared.program.FuncName.TheVariants as func
use Rattle.codegen_program.specs.declared.program.«Unit».{«Unit» as Unit'}
use Rattle.codegen_program.specs.declared.stmt.Stmt.{Stmt}
use Rattle.codegen_program.specs.declared.stmt.Stmt.TheVariants as stmt
use Rattle.codegen_core.specs.Compiled.{closing_with, fields_of, for_items, transform, unit_with}
use Rattle.codegen_core.specs.Fields.{declarations}
use Rattle.codegen_core.specs.Variants.{member_name, transparent_field}
use Rattle.codegen_core.specs.declared.field.Field.{Field}
use Rattle.codegen_core.specs.declared.trait_impl.TraitImpl.{TraitImpl}
use Rattle.codegen_core.specs.declared.variant.Variant.{Variant}
use Rattle.codegen_outer.specs.Forwarding.{declare_forward, forward_done, forward_of, is_nothing}
use Rattle.codegen_outer.specs.Outer.{Outer, attributes_outer, field_outer, input_outer, type_param_outer, variant_outer}
use Rattle.codegen_outer.specs.declared.attrs_field.ForwardAttrs.{ForwardAttrs}
use Rattle.codegen_outer.specs.declared.from_attributes_impl.FromAttributesImpl.{FromAttributesImpl}
use Rattle.codegen_outer.specs.declared.from_derive_impl.FromDeriveInputImpl.{FromDeriveInputImpl}
use Rattle.codegen_outer.specs.declared.from_field.FromFieldImpl.{FromFieldImpl}
use Rattle.codegen_outer.specs.declared.from_type_param.FromTypeParamImpl.{FromTypeParamImpl}
use Rattle.codegen_outer.specs.declared.from_variant_impl.FromVariantImpl.{FromVariantImpl}

-- ---- attributes

-- goes over the attributes where none is read, if some are kept
abbrev pub over_kept : Forward → List Stmt
over_kept keep = cond (is_nothing keep) [] (stmt.ForAttributes [] [] keep ∷ [])

-- goes over the attributes, if some of them are read or kept
abbrev pub over_attributes : List Text → Forward → TraitImpl → List Stmt
over_attributes [] keep base = over_kept keep
over_attributes (name ∷ names) keep base = stmt.ForAttributes (name ∷ names) (for_items base ∷ []) keep ∷ []

abbrev pub for_attributes : List Path → ForwardAttrs → TraitImpl → List Stmt
for_attributes names attrs base = over_attributes (map path_text names) (forward_of attrs) base

-- ---- the function

-- the statements that read a receiver field by field
abbrev pub outer_stmts : Outer → List Stmt
outer_stmts it =
    stmt.DeclareErrors
    ∷ (declarations (fields_of it.base)
    ++ (declare_forward (option_copied it.forward.field)
    ++ (for_attributes it.names it.forward it.base
    ++ (forward_done (option_copied it.forward.field) ++ (it.reads ++ closing_with it.parts it.from_ident it.base)))))

-- those that read it as its one field is read
abbrev pub whole_stmts : TraitImpl → Style → Field → List Stmt
whole_stmts base style field =
    stmt.Delegate base.ident.now (member_name style field) field.ty.now ∷ transform (option_copied base.post_transform)

-- a struct may be read as its one field is; a field, a type parameter and a variant never are
abbrev pub has_whole : Derive → Bool
has_whole derives.FromMeta = true
has_whole derives.FromAttributes = true
has_whole derives.FromDeriveInput = true
has_whole derives.FromField = false
has_whole derives.FromTypeParam = false
has_whole derives.FromVariant = false

-- the field as which a body is read, where it may be
abbrev pub body_whole : Bool → «Data» Variant Field → Option Field
body_whole transparent (body.Enum variants) = None
body_whole transparent (body.Struct it) = transparent_field transparent it.style it.fields

-- the field as which a struct is read under the derive
abbrev pub whole_field : Outer → Fields Field → Option Field
whole_field it fields = cond (has_whole it.derive) (transparent_field it.base.transparent fields.style fields.fields) None

abbrev pub stmts_by : Option Field → Style → Outer → List Stmt
stmts_by (Some field) style it = whole_stmts it.base style field
stmts_by None style it = outer_stmts it

abbrev pub struct_stmts : Outer → Fields Field → List Stmt
struct_stmts it fields = stmts_by (whole_field it fields) fields.style it

abbrev pub stmts_in : Outer → «Data» Variant Field → List Stmt
stmts_in it (body.Enum variants) = outer_stmts it
stmts_in it (body.Struct fields) = struct_stmts it fields

abbrev pub func_stmts : Outer → List Stmt
func_stmts it = stmts_in it it.base.body

-- the function of the derive
abbrev pub func_of : Derive → FuncName
func_of derives.FromMeta = func.FromMeta
func_of derives.FromAttributes = func.FromAttributes
func_of derives.FromDeriveInput = func.FromDeriveInput
func_of derives.FromField = func.FromField
func_of derives.FromTypeParam = func.FromTypeParam
func_of derives.FromVariant = func.FromVariant

-- ---- units

abbrev pub compiled_outer : Outer → ℕ → Unit'
compiled_outer it decl =
    unit_with decl it.derive it.base false (record { name = func_of it.derive; stmts = func_stmts it } ∷ [])

abbrev pub compiled_attributes : FromAttributesImpl → ℕ → Unit'
compiled_attributes it decl = compiled_outer (attributes_outer it) decl

abbrev pub compiled_derive_input : FromDeriveInputImpl → ℕ → Unit'
compiled_derive_input it decl = compiled_outer (input_outer it) decl

abbrev pub compiled_field : FromFieldImpl → ℕ → Unit'
compiled_field it decl = compiled_outer (field_outer it) decl

abbrev pub compiled_type_param : FromTypeParamImpl → ℕ → Unit'
compiled_type_param it decl = compiled_outer (type_param_outer it) decl

abbrev pub compiled_variant : FromVariantImpl → ℕ → Unit'
compiled_variant it decl = compiled_outer (variant_outer it) decl
