-- The declaration that options mean by which elements are read.
use Rattle.std.specs.Prelude.{ℕ, ◌≤◌, false, List, [], ◌∷◌, map, Option, Some, None, cond, is_some, length, option_and_then, unwrap_or}
use Rattle.tok_types.specs.Ident.{ident_text}
use Rattle.node_make.specs.PathText.{path_text}
use Rattle.node_core.specs.declared.data.Field.{Field}
use Rattle.node_core.specs.declared.derive.DeriveInput.{DeriveInput}
use Rattle.body_core.specs.declared.ast.data.«Data».TheVariants as container
use Rattle.machine_host.specs.Decls.{member_name as declared_name}
use Rattle.machine_host.specs.Made.{named_type}
use Rattle.codegen_program.specs.MagicFields.{magic_of}
use Rattle.codegen_program.specs.declared.callable.Callable.{Callable}
use Rattle.codegen_program.specs.declared.forwarded.Magic.{Magic}
use Rattle.codegen_program.specs.declared.forwarded.Magic.TheVariants as magic
use Rattle.codegen_program.specs.declared.program.Derive.{Derive}
use Rattle.codegen_program.specs.declared.program.Derive.TheVariants.{FromAttributes, FromDeriveInput, FromField, FromTypeParam, FromVariant}
use Rattle.codegen_program.specs.declared.shape.ShapeSpec.{ShapeSpec}
use Rattle.codegen_program.specs.declared.shape.ShapeSpec.TheVariants as shapes
use Rattle.codegen_outer.specs.CompiledOuter.{has_whole}
use Rattle.codegen_outer.specs.Forwarding.{kept}
use Rattle.codegen_outer.specs.Shapes.{input_shapes, variant_shapes}
use Rattle.machine_steps.specs.Receivers.{body_style}
use Rattle.meaning_core.specs.Decl.{FieldDecl}
use Rattle.meaning_core.specs.Elements.{AsOne, ByMembers, Member, OfElement, OfItems, OuterDecl, OuterForm, PartDecl}
use Rattle.options_types.specs.declared.forwarded_field.ForwardedField.{ForwardedField}
use Rattle.options_core.specs.declared.from_attributes.FromAttributesOptions.{FromAttributesOptions}
use Rattle.options_core.specs.declared.from_derive.FdiOptions.{FdiOptions}
use Rattle.options_core.specs.declared.from_field.FromFieldOptions.{FromFieldOptions}
use Rattle.options_core.specs.declared.from_type_param.FromTypeParamOptions.{FromTypeParamOptions}
use Rattle.options_core.specs.declared.from_variant.FromVariantOptions.{FromVariantOptions}
use Rattle.options_core.specs.declared.outer_from.OuterFrom.{OuterFrom}
use Rattle.run_accepted.specs.Body.{Body}
use Rattle.run_accepted.specs.InputField.{InputField}
use Rattle.run_accepted.specs.Members.{body_fields}
use Rattle.options_core.specs.Parts.{part_fields}
use Rattle.law_options.specs.Meant.{fields_in, meant_field, member_name, own_default, whole_field}

-- of each part of an item one field of the declaration at most takes it
abbrev pub TakesPartsOnce : DeriveInput → Type 0
TakesPartsOnce input = (what : Magic) → length (part_fields FromDeriveInput what (body_fields input.body)) ≤ 1

-- what the options of any of these derives say: those that all have, the fields that take the generics and the body, or the
-- fields of a variant, and the shapes that are taken
pub record ElementOptions : Type 0 where
  pub derive : Derive
  pub base : OuterFrom
  pub generics : Option ForwardedField
  pub body : Option ForwardedField
  pub shapes : ShapeSpec

-- the same where neither generics nor a body are taken
abbrev pub of_base : Derive → OuterFrom → ElementOptions
of_base derive base = record { derive = derive; base = base; generics = None; body = None; shapes = shapes.Any }

abbrev pub attributes_element : FromAttributesOptions → ElementOptions
attributes_element it = of_base FromAttributes it.base

abbrev pub input_element : FdiOptions → ElementOptions
input_element it =
    record { derive = FromDeriveInput; base = it.base; generics = it.generics; body = it.body; shapes = input_shapes it.supports }

abbrev pub field_element : FromFieldOptions → ElementOptions
field_element it = of_base FromField it.base

abbrev pub type_param_element : FromTypeParamOptions → ElementOptions
type_param_element it = of_base FromTypeParam it.base

abbrev pub variant_element : FromVariantOptions → ElementOptions
variant_element it =
    record { derive = FromVariant; base = it.base; generics = None; body = it.fields; shapes = variant_shapes it.supports }

module _ (it : ElementOptions) where
  -- the options of the field that takes a part; of the others none are read
  abbrev pub part_options : Magic → Option ForwardedField
  part_options magic.Ident = it.base.ident
  part_options magic.Attrs = it.base.attrs
  part_options magic.Generics = it.generics
  part_options magic.Body = it.body
  part_options magic.Fields = it.body
  part_options magic.Vis = None
  part_options magic.Ty = None
  part_options magic.Discriminant = None
  part_options magic.Bounds = None
  part_options magic.Default = None

  -- the callable that converts the part
  abbrev pub part_with : Magic → Option Callable
  part_with what = option_and_then (λ field. field.with) (part_options what)

  abbrev pub part_decl : Field → Magic → PartDecl
  part_decl field what = record { member = declared_name field; what = what; type = field.ty; with = part_with what }

  -- a field that takes a part by its name, or the next of those that items give
  abbrev pub member_at : Field → Option Magic → List FieldDecl → (List FieldDecl → List Member) → List Member
  member_at field (Some what) decls others = OfElement (part_decl field what) ∷ others decls
  member_at field None [] others = others []
  member_at field None (decl ∷ decls) others = OfItems decl ∷ others decls

  -- the members in the order of the declaration
  abbrev pub meant_members : List Field → List FieldDecl → List Member
  meant_members [] decls = []
  meant_members (field ∷ fields) decls = member_at field (magic_of it.derive field) decls (meant_members fields)

  -- the field as which it is read, where the derive has this form
  abbrev pub one_field : Body → Option InputField
  one_field (container.Enum variants) = None
  one_field (container.Struct fields) =
      cond (has_whole it.derive) (whole_field (is_some it.base.container.transparent.0) fields.style fields.fields) None

  module _ (decl : DeriveInput) where
    abbrev pub members_form : OuterForm
    members_form =
        ByMembers (body_style decl.body) (meant_members (body_fields decl.body) (map meant_field (fields_in it.base.container.body)))

    abbrev pub form_with : Option InputField → OuterForm
    form_with (Some field) = AsOne (member_name (body_style decl.body) field) field.ty
    form_with None = members_form

  -- the declaration of this number that the options mean; attributes that no field takes are not kept
  abbrev pub meant_element : ℕ → DeriveInput → OuterDecl
  meant_element number decl =
      record {
        number = number;
        derive = it.derive;
        name = ident_text it.base.container.ident;
        type = named_type it.base.container.ident.text;
        attributes = map path_text it.base.attr_names.0;
        keeps = kept it.base.attrs it.base.forward_attrs;
        shapes = it.shapes;
        form = form_with decl (one_field it.base.container.body);
        default = own_default it.base.container.default;
        from_ident = it.base.from_ident;
        allows_unknown = unwrap_or it.base.container.allow_unknown_fields false;
        transform = it.base.container.post_transform;
      }
