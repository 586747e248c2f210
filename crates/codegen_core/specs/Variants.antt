-- What variants compile to: each that is not skipped has an arm, and those that are read field by field have slots, which
-- are numbered on from one variant to the next.
use Rattle.std.specs.Prelude.{ℕ, ◌+◌, Bool, List, [], ◌∷◌, ◌++◌, length, flat_map, codes, Option, Some, None, if◌then◌else◌}
use Rattle.std.specs.List.{filter_map}
use Rattle.base_core.specs.declared.text.Text.{Text}
use Rattle.tok_types.specs.Ident.{ident_text}
use Rattle.node_core.specs.declared.style.Style.{Style}
use Rattle.node_core.specs.declared.style.Style.TheVariants as style
use Rattle.codegen_program.specs.declared.stmt.Stmt.{Stmt}
use Rattle.codegen_program.specs.declared.stmt.Stmt.TheVariants as stmt
use Rattle.codegen_program.specs.declared.variant.UnitArm.{UnitArm}
use Rattle.codegen_program.specs.declared.variant.UnitForm.{UnitForm}
use Rattle.codegen_program.specs.declared.variant.UnitForm.TheVariants as units
use Rattle.codegen_program.specs.declared.variant.VariantArm.{VariantArm}
use Rattle.codegen_program.specs.declared.variant.VariantForm.{VariantForm}
use Rattle.codegen_program.specs.declared.variant.VariantForm.TheVariants as forms
use Rattle.codegen_core.specs.declared.field.Field.{Field}
use Rattle.codegen_core.specs.declared.variant.Variant.{Variant}
use Rattle.codegen_core.specs.Fields.{declarations_from, core_loop_from, checks_from, inits_from}

-- the one field, where there is no other
abbrev pub sole : List Field → Option Field
sole [] = None
sole (field ∷ []) = Some field
sole (field ∷ other ∷ more) = None

-- the field as which a struct or a variant is read: the one of a tuple, and the one with a name where that is said
abbrev pub transparent_field : Bool → Style → List Field → Option Field
transparent_field transparent style.Tuple fields = sole fields
transparent_field transparent style.Struct fields = if transparent then sole fields else None
transparent_field transparent style.Unit fields = None

-- the name of that member
abbrev pub member_name : Style → Field → Text
member_name style.Tuple field = codes "0"
member_name style.Struct field = ident_text field.ident.now
member_name style.Unit field = ident_text field.ident.now

-- the field as which the variant is read
abbrev pub proxy_of : Variant → Option Field
proxy_of it = transparent_field it.transparent it.body.style it.body.fields

-- the variant from its slots
abbrev pub variant_build : ℕ → Variant → Stmt
variant_build slot it = stmt.Build it.ty_ident.now (Some it.variant_ident.now) [] (inits_from slot it.body.fields)

-- the statements of a variant that is read field by field. What is kept for a flattened field is read by none of them
abbrev pub variant_stmts : ℕ → Variant → List Stmt
variant_stmts slot it =
    stmt.DeclareErrors
    ∷ (declarations_from slot it.body.fields
    ++ (core_loop_from slot it.allow_unknown_fields it.body.fields
    ∷ (checks_from slot it.body.fields ++ (stmt.CheckErrors (Some it.name_in_attr.now) ∷ (variant_build slot it ∷ [])))))

-- how a variant is read that is not read as its one field is; no tuple of other members has a program
abbrev pub own_form : Style → ℕ → Variant → VariantForm Stmt
own_form style.Tuple slot it = forms.Struct (variant_stmts slot it)
own_form style.Struct slot it = forms.Struct (variant_stmts slot it)
own_form style.Unit slot it = forms.Unit

abbrev pub form_by : Option Field → ℕ → Variant → VariantForm Stmt
form_by (Some field) slot it = forms.Transparent (member_name it.body.style field) field.ty.now
form_by None slot it = own_form it.body.style slot it

-- how the variant is read from an item, where this is its first slot
abbrev pub variant_form : ℕ → Variant → VariantForm Stmt
variant_form slot it = form_by (proxy_of it) slot it

-- the fields of a variant that is read in this form which have slots
abbrev pub slotted_by : Option Field → List Field → List Field
slotted_by (Some field) fields = []
slotted_by None fields = fields

abbrev pub slotted : Variant → List Field
slotted it = if it.skip then [] else slotted_by (proxy_of it) it.body.fields

-- the number of slots of these variants
abbrev pub slots_in : List Variant → ℕ
slots_in [] = 0
slots_in (it ∷ variants) = length (slotted it) + slots_in variants

-- the arm for an item of the variant's name, where the variant is read
abbrev pub variant_arm : ℕ → Variant → List (VariantArm Stmt)
variant_arm slot it =
    if it.skip then [] else record { name = it.name_in_attr.now; ident = it.variant_ident.now; form = variant_form slot it } ∷ []

-- the arms of all variants, where this is the first slot
abbrev pub variant_arms : ℕ → List Variant → List (VariantArm Stmt)
variant_arms slot [] = []
variant_arms slot (it ∷ variants) = variant_arm slot it ++ variant_arms (slot + length (slotted it)) variants

abbrev pub own_unit_form : Style → UnitForm
own_unit_form style.Tuple = units.Other
own_unit_form style.Struct = units.Other
own_unit_form style.Unit = units.Unit

abbrev pub unit_form_by : Option Field → Style → UnitForm
unit_form_by (Some field) style = units.Transparent (member_name style field) field.ty.now
unit_form_by None style = own_unit_form style

-- what the variant is where its name stands alone
abbrev pub unit_form : Variant → UnitForm
unit_form it = unit_form_by (proxy_of it) it.body.style

-- the arm for a string of the variant's name, where the variant is read
abbrev pub unit_arm : Variant → List UnitArm
unit_arm it = if it.skip then [] else record { name = it.name_in_attr.now; ident = it.variant_ident.now; form = unit_form it } ∷ []

abbrev pub unit_arms : List Variant → List UnitArm
unit_arms variants = flat_map unit_arm variants

-- the names of the variants that are read
abbrev pub read_name : Variant → Option Text
read_name it = if it.skip then None else Some it.name_in_attr.now

abbrev pub variant_names : List Variant → List Text
variant_names variants = filter_map read_name variants
