-- What options without a fault leave of a declaration, and what they mean by its fields.
use Rattle.std.specs.Prelude.{◌≡◌, ◌⊎◌, Bool, true, false, ◌&&◌, List, [], Option, Some, None, map, option_and_then}
use Rattle.std.specs.List.{AllByRecursion}
use Rattle.std.specs.Option.{option_copied}
use Rattle.base_core.specs.declared.text.Text.{Text}
use Rattle.tok_types.specs.Ident.{ident_text}
use Rattle.node_expr.specs.declared.ty.«Type».{«Type» as Type'}
use Rattle.node_core.specs.declared.style.Style.{Style}
use Rattle.node_core.specs.declared.style.Style.TheVariants as style
use Rattle.body_core.specs.declared.ast.data.«Data».{«Data»}
use Rattle.body_core.specs.declared.ast.data.«Data».TheVariants as body
use Rattle.codegen_program.specs.declared.program.«Unit».{«Unit» as Unit'}
use Rattle.codegen_core.specs.Compiled.{compiled_meta, default_of, fields_of}
use Rattle.codegen_core.specs.Defaults.{custom}
use Rattle.codegen_core.specs.Variants.{proxy_of, transparent_field}
use Rattle.codegen_core.specs.declared.default_expression.DefaultExpression.{DefaultExpression}
use Rattle.codegen_core.specs.declared.default_expression.DefaultExpression.TheVariants as defaults
use Rattle.codegen_core.specs.declared.field.Field.{Field}
use Rattle.codegen_core.specs.declared.from_meta_impl.FromMetaImpl.{FromMetaImpl}
use Rattle.codegen_core.specs.declared.trait_impl.TraitImpl.{TraitImpl}
use Rattle.codegen_core.specs.declared.variant.Variant.{Variant}
use Rattle.codegen_outer.specs.Bare.{IsBare}
use Rattle.codegen_outer.specs.CompiledOuter.{compiled_derive_input}
use Rattle.codegen_outer.specs.declared.from_derive_impl.FromDeriveInputImpl.{FromDeriveInputImpl}
use Rattle.meaning_core.specs.Decl.{Decl, FieldDecl, Shape, Single, Many, Flat, Default, ByType, ByCall}
use Rattle.law_machine.specs.Compiles.{meant_default, read_variants}

-- the shape by `multiple` and `flatten`
abbrev pub shape_of : Bool → Bool → Shape
shape_of many true = Flat
shape_of true false = Many
shape_of false false = Single

-- the default that a field has itself
abbrev pub own_default : Option DefaultExpression → Option Default
own_default None = None
own_default (Some (defaults.Inherit ident)) = None
own_default (Some (defaults.Explicit call)) = Some (ByCall call.now)
own_default (Some (defaults.Trait span)) = Some ByType

-- the field that is meant
abbrev pub meant_field : Field → FieldDecl
meant_field left =
    record {
      member = ident_text left.ident.now;
      name = left.name_in_attr.now;
      type = left.ty.now;
      shape = shape_of left.multiple left.flatten;
      skip = left.skip;
      default = own_default left.default_expression;
      with = custom left.with_callable;
      transform = option_copied left.post_transform;
    }

-- the container's default
abbrev pub whole_default : TraitImpl → Option Default
whole_default left = option_and_then meant_default (default_of false left)

-- the declaration that is meant, of this type and with these names of attributes
abbrev pub meant_decl : Type' → List Text → TraitImpl → Decl
meant_decl type attributes left =
    record {
      number = 0;
      name = ident_text left.ident.now;
      type = type;
      attributes = attributes;
      body = record { fields = map meant_field (fields_of left); default = whole_default left; allows_unknown = left.allow_unknown_fields };
      transform = option_copied left.post_transform;
    }

-- A field without a default of its own inherits the member of its name, where the container has one; a skipped field has one
-- in any case.
abbrev pub IsLeftDefault : Field → Option Default → Option DefaultExpression → Type 0
IsLeftDefault left (Some whole) None = ⊥
IsLeftDefault left None None = left.skip ≡ false
IsLeftDefault left (Some whole) (Some (defaults.Inherit ident)) = ident_text ident.now ≡ ident_text left.ident.now
IsLeftDefault left None (Some (defaults.Inherit ident)) = ⊥
IsLeftDefault left whole (Some (defaults.Explicit call)) = Unit {0}
IsLeftDefault left whole (Some (defaults.Trait span)) = Unit {0}

-- options leave the field so, where the container has this default
pub record IsLeftField (whole : Option Default) (left : Field) : Type 0 where
  pub one_shape : (left.multiple && left.flatten) ≡ false
  pub default : IsLeftDefault left whole left.default_expression

-- options leave the declaration so
abbrev pub IsLeft : TraitImpl → Type 0
IsLeft left = AllByRecursion (IsLeftField (whole_default left)) (fields_of left)

-- options leave the members so: what a word gives has none, and no tuple of several is read
abbrev pub IsLeftOwn : Option Default → Style → List Field → Type 0
IsLeftOwn whole style.Unit fields = fields ≡ []
IsLeftOwn whole style.Struct fields = AllByRecursion (IsLeftField whole) fields
IsLeftOwn whole style.Tuple fields = ⊥

-- what is read as its one member may have any
abbrev pub IsLeftForm : Option Default → Option Field → Style → List Field → Type 0
IsLeftForm whole (Some field) style fields = Unit {0}
IsLeftForm whole None style fields = IsLeftOwn whole style fields

-- the members of a variant inherit nothing
abbrev pub IsLeftVariant : Variant → Type 0
IsLeftVariant left = IsLeftForm None (proxy_of left) left.body.style left.body.fields

abbrev pub IsLeftBody : TraitImpl → «Data» Variant Field → Type 0
IsLeftBody left (body.Struct it) = IsLeftForm (whole_default left) (transparent_field left.transparent it.style it.fields) it.style it.fields
IsLeftBody left (body.Enum variants) = AllByRecursion IsLeftVariant (read_variants variants)

-- the unit of `FromMeta` that options leave
abbrev pub IsLeftMeta : Unit' → Type 0
IsLeftMeta unit = (left : FromMetaImpl) × (unit ≡ compiled_meta left unit.decl) × IsLeftBody left.base left.base.body

-- the unit of `FromDeriveInput` that options leave, which reads attributes alone; none of its defaults comes from the identifier
abbrev pub IsLeftInput : Unit' → Type 0
IsLeftInput unit =
    (left : FromDeriveInputImpl) × (unit ≡ compiled_derive_input left unit.decl) × IsLeft left.outer.base × IsBare left × (left.outer.from_ident ≡ false)

-- a unit that options leave
abbrev pub IsLeftUnit : Unit' → Type 0
IsLeftUnit unit = IsLeftMeta unit ⊎ IsLeftInput unit
