-- The declaration that options mean.
use Rattle.std.specs.Prelude.{ℕ, Bool, false, not, List, [], ◌∷◌, filter, Option, Some, None, codes, is_some, map, option_map, unwrap_or, if◌then◌else◌}
use Rattle.base_core.specs.declared.text.Text.{Text}
use Rattle.tok_types.specs.Ident.{ident_text}
use Rattle.node_make.specs.PathText.{path_text}
use Rattle.node_core.specs.declared.data.Variant.{Variant as Declared}
use Rattle.node_core.specs.declared.style.Style.{Style}
use Rattle.node_core.specs.declared.style.Style.TheVariants as style
use Rattle.run_accepted.specs.Made.{named_type}
use Rattle.law_machine.specs.Compiles.{meant_word}
use Rattle.law_machine.specs.Decl.{BodyDecl, Decl, FieldDecl, Default, ByType, ByCall}
use Rattle.law_machine.specs.Receivers.{Bare, ByFields, EnumOf, Form, MetaBody, MetaDecl, StructOf, VariantDecl, Whole}
use Rattle.body_core.specs.declared.ast.data.«Data».TheVariants as container
use Rattle.run_accepted.specs.DefaultExpression.{DefaultExpression}
use Rattle.run_accepted.specs.DefaultExpression.TheVariants as defaults
use Rattle.run_accepted.specs.Rows.{holds}
use Rattle.run_accepted.specs.Body.{Body, is_skipped_variant}
use Rattle.run_accepted.specs.Core.{Core}
use Rattle.options_core.specs.declared.from_derive.FdiOptions.{FdiOptions}
use Rattle.options_core.specs.FromMetaOptions.{FromMetaOptions}
use Rattle.run_accepted.specs.InputField.{InputField}
use Rattle.run_accepted.specs.InputVariant.{InputVariant}
use Rattle.options_core.specs.MetaViews.{from_word_of}
use Rattle.law_machine.specs.Left.{shape_of}

-- a default of one's own; what is inherited is the container's
abbrev pub own_default : Option DefaultExpression → Option Default
own_default None = None
own_default (Some defaults.Inherit) = None
own_default (Some (defaults.Explicit callable)) = Some (ByCall callable)
own_default (Some (defaults.Trait span)) = Some ByType

-- the field that the options of a field mean
abbrev pub meant_field : InputField → FieldDecl
meant_field it =
    record {
      member = ident_text it.ident;
      name = it.name;
      type = it.ty;
      shape = shape_of (unwrap_or it.multiple false) (is_some it.flatten.0);
      skip = holds (λ value. value.value) it.skip;
      default = own_default it.default;
      with = it.with;
      transform = it.post_transform;
    }

-- the fields of a struct
abbrev pub fields_in : Body → List InputField
fields_in (container.Enum variants) = []
fields_in (container.Struct it) = it.fields

-- what the options of a container say of its fields
abbrev pub fields_decl : Core → BodyDecl
fields_decl core =
    record {
      fields = map meant_field (fields_in core.body);
      default = own_default core.default;
      allows_unknown = unwrap_or core.allow_unknown_fields false;
    }

-- the declaration of this number that the options of a container mean, which reads the attributes of these names
abbrev pub meant_decl : ℕ → List Text → Core → Decl
meant_decl number names core =
    record {
      number = number;
      name = ident_text core.ident;
      type = named_type core.ident.text;
      attributes = names;
      body = fields_decl core;
      transform = core.post_transform;
    }

-- the same of the options of `FromDeriveInput`
abbrev pub meant_input : ℕ → FdiOptions → Decl
meant_input number it = meant_decl number (map path_text it.base.attr_names.0) it.base.container

-- ---- `FromMeta`

-- the one field, where there is no other
abbrev pub sole : List InputField → Option InputField
sole [] = None
sole (field ∷ []) = Some field
sole (field ∷ other ∷ more) = None

-- the field as which a struct or a variant is read: the one of a tuple, and the one with a name where `transparent` says so
abbrev pub whole_field : Bool → Style → List InputField → Option InputField
whole_field transparent style.Tuple fields = sole fields
whole_field transparent style.Struct fields = if transparent then sole fields else None
whole_field transparent style.Unit fields = None

abbrev pub member_name : Style → InputField → Text
member_name style.Tuple field = codes "0"
member_name style.Struct field = ident_text field.ident
member_name style.Unit field = ident_text field.ident

-- what is written in this style is read so; a tuple of several members has no program
abbrev pub meant_form : Style → BodyDecl → Option InputField → Form
meant_form how fields (Some field) = Whole (member_name how field) field.ty
meant_form style.Unit fields None = Bare
meant_form style.Struct fields None = ByFields fields
meant_form style.Tuple fields None = ByFields fields

-- the fields of a variant, which inherit nothing
abbrev pub variant_fields : InputVariant → BodyDecl
variant_fields it =
    record { fields = map meant_field it.body.fields; default = None; allows_unknown = unwrap_or it.allow_unknown_fields false }

abbrev pub meant_variant : InputVariant → VariantDecl
meant_variant it =
    record {
      ident = ident_text it.ident;
      name = it.name;
      form = meant_form it.body.style (variant_fields it) (whole_field (is_some it.transparent.0) it.body.style it.body.fields);
    }

-- the variants that items may name
abbrev pub read_variants : List InputVariant → List InputVariant
read_variants variants = filter (λ it. not (is_skipped_variant it)) variants

abbrev pub meant_body : Core → Body → MetaBody
meant_body core (container.Struct it) = StructOf (meant_form it.style (fields_decl core) (whole_field (is_some core.transparent.0) it.style it.fields))
meant_body core (container.Enum variants) = EnumOf (map meant_variant (read_variants variants))

-- the declaration of this number, whose variants are these, that the options of `FromMeta` mean
abbrev pub meant_meta : ℕ → List Declared → FromMetaOptions → MetaDecl
meant_meta number variants it =
    record {
      number = number;
      name = ident_text it.base.ident;
      type = named_type it.base.ident.text;
      body = meant_body it.base it.base.body;
      transform = it.base.post_transform;
      word = option_map (meant_word variants) (from_word_of it);
      none = it.from_none;
      expr = it.from_expr;
    }
