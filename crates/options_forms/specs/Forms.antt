-- The forms that options show and that have no program: what attributes name, by option; what stands at the identifier; then
-- members in order; and then the fields that take a part of an element.
use Rattle.std.specs.Prelude.{ℕ, Bool, true, false, ◌==◌, ◌&&◌, ◌||◌, not, List, [], ◌++◌, length, flat_map, Option, Some, None, is_some}
use Rattle.node_core.specs.declared.style.Style.{Style}
use Rattle.node_core.specs.declared.style.Style.TheVariants as style
use Rattle.body_core.specs.declared.ast.data.«Data».TheVariants as body
use Rattle.body_core.specs.declared.ast.fields.Fields.{Fields}
use Rattle.tok_types.specs.declared.ident.Ident.{Ident}
use Rattle.codegen_program.specs.declared.arm.PostfixTransform.{PostfixTransform}
use Rattle.codegen_program.specs.declared.callable.Callable.{Callable}
use Rattle.codegen_core.specs.Forms.{form_if, generated_call, generated_path, is_generic}
use Rattle.codegen_core.specs.declared.form.Form.TheVariants as form
use Rattle.options_core.specs.DefaultExpression.{DefaultExpression}
use Rattle.options_core.specs.DefaultExpression.TheVariants as defaults
use Rattle.options_core.specs.Core.{Core}
use Rattle.options_core.specs.ForwardedField.{ForwardedField}
use Rattle.options_core.specs.FromMetaOptions.{FromMetaOptions}
use Rattle.options_core.specs.declared.from_attributes.FromAttributesOptions.{FromAttributesOptions}
use Rattle.options_core.specs.declared.from_derive.FdiOptions.{FdiOptions}
use Rattle.options_core.specs.declared.outer_from.OuterFrom.{OuterFrom}
use Rattle.options_core.specs.declared.from_field.FromFieldOptions.{FromFieldOptions}
use Rattle.options_core.specs.declared.from_type_param.FromTypeParamOptions.{FromTypeParamOptions}
use Rattle.options_core.specs.declared.from_variant.FromVariantOptions.{FromVariantOptions}
use Rattle.options_core.specs.InputField.{InputField}
use Rattle.options_core.specs.InputVariant.{InputVariant}
use Rattle.options_core.specs.Body.{Body, is_delegated, is_skipped_variant, is_unit}
use Rattle.codegen_core.specs.declared.form.Unsupported.{Unsupported}

-- ---- paths that begin with the name by which generated code calls `darling`

abbrev pub call_forms : Option Callable → List Unsupported
call_forms None = []
call_forms (Some callable) = generated_call callable.call

abbrev pub post_forms : Option PostfixTransform → List Unsupported
post_forms None = []
post_forms (Some post) = generated_path post.function

abbrev pub default_forms : Option DefaultExpression → List Unsupported
default_forms (Some (defaults.Explicit callable)) = generated_call callable.call
default_forms (Some defaults.Inherit) = []
default_forms (Some (defaults.Trait span)) = []
default_forms None = []

-- ---- members

-- what the options of a field name
abbrev pub field_forms : InputField → List Unsupported
field_forms field = default_forms field.default ++ call_forms field.with ++ post_forms field.post_transform

-- a tuple of several members, or of none: one of one member is read as this is
abbrev pub is_bare_tuple : Style → ℕ → Bool
is_bare_tuple style.Tuple count = not (count == 1)
is_bare_tuple style.Struct count = false
is_bare_tuple style.Unit count = false

abbrev pub is_read_tuple : InputVariant → Bool
is_read_tuple variant = not (is_skipped_variant variant) && is_bare_tuple variant.body.style (length variant.body.fields)

-- the variant has names, and is not read as its one field is
abbrev pub has_fields_by : Style → InputVariant → Bool
has_fields_by style.Tuple variant = false
has_fields_by style.Struct variant = not (is_some variant.transparent.0 && length variant.body.fields == 1)
has_fields_by style.Unit variant = false

abbrev pub has_fields : InputVariant → Bool
has_fields variant = has_fields_by variant.body.style variant

abbrev pub is_read_by_fields : InputVariant → Bool
is_read_by_fields variant = not (is_skipped_variant variant) && has_fields variant

-- the field takes over the container's default
abbrev pub is_inherited : Option DefaultExpression → Bool
is_inherited (Some defaults.Inherit) = true
is_inherited (Some (defaults.Explicit callable)) = false
is_inherited (Some (defaults.Trait span)) = false
is_inherited None = false

-- a field of a variant, which is read field by field or not
abbrev pub variant_field_forms : Bool → InputField → List Unsupported
variant_field_forms read field = field_forms field ++ form_if (read && is_inherited field.default) form.InheritedDefault field.ident

abbrev pub variant_forms : InputVariant → List Unsupported
variant_forms variant =
    form_if (is_read_tuple variant) form.Tuple variant.ident
    ++ flat_map (variant_field_forms (is_read_by_fields variant)) variant.body.fields

-- ---- declarations

-- what the options of every container name
abbrev pub container_forms : Core → List Unsupported
container_forms core = default_forms core.default ++ post_forms core.post_transform

-- parameters, or a `where` clause
abbrev pub generic_forms : Core → List Unsupported
generic_forms core = form_if (is_generic core.generics) form.Generics core.ident

-- a struct that is a word, or read as its one field is: nothing is built of fields
abbrev pub is_whole : FromMetaOptions → Fields InputField → Bool
is_whole it fields = is_unit fields.style || is_delegated fields.style (length fields.fields) it.base.transparent.0

abbrev pub struct_forms : FromMetaOptions → Fields InputField → List Unsupported
struct_forms it fields =
    form_if (is_bare_tuple fields.style (length fields.fields)) form.Tuple it.base.ident
    ++ generic_forms it.base
    ++ form_if (is_whole it fields && is_some it.base.post_transform) form.Transform it.base.ident
    ++ form_if (is_whole it fields && is_some it.from_none) form.FromNone it.base.ident
    ++ form_if (is_unit fields.style && is_some it.from_expr) form.FromExpr it.base.ident
    ++ flat_map field_forms fields.fields

abbrev pub enum_forms : FromMetaOptions → List InputVariant → List Unsupported
enum_forms it variants =
    generic_forms it.base
    ++ form_if (is_some it.base.post_transform) form.Transform it.base.ident
    ++ flat_map variant_forms variants

abbrev pub body_forms : FromMetaOptions → Body → List Unsupported
body_forms it (body.Struct fields) = struct_forms it fields
body_forms it (body.Enum variants) = enum_forms it variants

-- under `FromMeta`
abbrev pub meta_forms : FromMetaOptions → List Unsupported
meta_forms it =
    container_forms it.base
    ++ call_forms it.from_word
    ++ call_forms it.from_none
    ++ call_forms it.from_expr
    ++ body_forms it it.base.body

abbrev pub member_forms : Body → List Unsupported
member_forms (body.Struct fields) = flat_map field_forms fields.fields
member_forms (body.Enum variants) = []

-- ---- declarations that are read from elements: under some derives a struct is read as its one field is, under some never

-- a tuple that is not read as its one field is
abbrev pub is_own_tuple : Bool → Style → ℕ → Bool
is_own_tuple has_whole style.Tuple count = not (has_whole && count == 1)
is_own_tuple has_whole style.Struct count = false
is_own_tuple has_whole style.Unit count = false

-- a body that has no program
abbrev pub shape_forms : Bool → Core → Body → List Unsupported
shape_forms has_whole core (body.Enum variants) = form_if (length variants == 0) form.EmptyEnum core.ident
shape_forms has_whole core (body.Struct it) = form_if (is_own_tuple has_whole it.style (length it.fields)) form.Tuple core.ident

-- what the options of each of these derives show, but for the fields that take a part of the element
abbrev pub outer_forms : Bool → Core → List Unsupported
outer_forms has_whole core = container_forms core ++ shape_forms has_whole core core.body ++ generic_forms core ++ member_forms core.body

-- a field that takes a part of the element: the path that converts it
abbrev pub part_forms : Option ForwardedField → List Unsupported
part_forms None = []
part_forms (Some part) = call_forms part.with

-- the field, where a struct is read as its one field is
abbrev pub beside_forms : Bool → Option Ident → List Unsupported
beside_forms is_whole None = []
beside_forms is_whole (Some ident) = form_if is_whole form.MagicBesideTransparent ident

-- both, of a field whose options are read
abbrev pub taken_forms : Bool → Option ForwardedField → List Unsupported
taken_forms is_whole None = []
taken_forms is_whole (Some part) = call_forms part.with ++ form_if is_whole form.MagicBesideTransparent part.ident

-- a field that takes the identifier of an element, where attributes alone are read
abbrev pub ident_forms : Option ForwardedField → List Unsupported
ident_forms None = []
ident_forms (Some part) = call_forms part.with ++ form_if true form.IdentUnderAttributes part.ident

-- a struct is read as its one field is
abbrev pub is_read_whole : Core → Body → Bool
is_read_whole core (body.Struct it) = is_delegated it.style (length it.fields) core.transparent.0
is_read_whole core (body.Enum variants) = false

abbrev pub is_core_whole : Core → Bool
is_core_whole core = is_read_whole core core.body

-- under `FromAttributes`
abbrev pub attributes_forms : FromAttributesOptions → List Unsupported
attributes_forms it =
    outer_forms true it.base.container
    ++ ident_forms it.base.ident
    ++ taken_forms (is_core_whole it.base.container) it.base.attrs

-- what the fields show that take a part of any element
abbrev pub shared_forms : OuterFrom → List Unsupported
shared_forms base =
    taken_forms (is_core_whole base.container) base.ident ++ taken_forms (is_core_whole base.container) base.attrs

-- what the fields show that take a part of an item alone
abbrev pub own_forms : Bool → FdiOptions → List Unsupported
own_forms whole it = beside_forms whole it.vis ++ taken_forms whole it.generics ++ taken_forms whole it.body

-- under `FromDeriveInput`
abbrev pub input_forms : FdiOptions → List Unsupported
input_forms it =
    outer_forms true it.base.container ++ shared_forms it.base ++ own_forms (is_core_whole it.base.container) it

-- under `FromField`
abbrev pub from_field_forms : FromFieldOptions → List Unsupported
from_field_forms it = outer_forms false it.base.container ++ part_forms it.base.ident ++ part_forms it.base.attrs

-- under `FromTypeParam`
abbrev pub type_param_forms : FromTypeParamOptions → List Unsupported
type_param_forms it = outer_forms false it.base.container ++ part_forms it.base.ident ++ part_forms it.base.attrs

-- under `FromVariant`
abbrev pub from_variant_forms : FromVariantOptions → List Unsupported
from_variant_forms it =
    outer_forms false it.base.container ++ part_forms it.base.ident ++ part_forms it.base.attrs ++ part_forms it.fields
