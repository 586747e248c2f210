-- What is compiled from options, beside the options.
use Rattle.std.specs.Prelude.{◌≡◌, Bool, false, Option, Some, None, is_some, unwrap_or}
use Rattle.std.specs.List.{AllZip}
use Rattle.std.specs.Option.{option_copied}
use Rattle.tok_types.specs.declared.ident.Ident.{Ident}
use Rattle.node_expr.specs.declared.ty.«Type».{«Type» as Type'}
use Rattle.node_span.specs.Spanned.{type_span}
use Rattle.body_core.specs.declared.ast.data.«Data».{«Data»}
use Rattle.body_core.specs.declared.ast.data.«Data».TheVariants as body
use Rattle.body_core.specs.Data.{place}
use Rattle.codegen_core.specs.Defaults.{custom}
use Rattle.codegen_core.specs.declared.default_expression.DefaultExpression.{DefaultExpression as Shown}
use Rattle.codegen_core.specs.declared.default_expression.DefaultExpression.TheVariants as shown
use Rattle.codegen_core.specs.declared.field.Field.{Field}
use Rattle.codegen_core.specs.declared.overrideable_callable.OverrideableCallable.{OverrideableCallable}
use Rattle.codegen_core.specs.declared.overrideable_callable.OverrideableCallable.TheVariants as callables
use Rattle.codegen_core.specs.declared.trait_impl.TraitImpl.{TraitImpl}
use Rattle.codegen_core.specs.declared.variant.Variant.{Variant}
use Rattle.options_rows.specs.DefaultExpression.{DefaultExpression}
use Rattle.options_rows.specs.DefaultExpression.TheVariants as defaults
use Rattle.options_rows.specs.Rows.{holds}
use Rattle.options_members.specs.declared.container.Core.{Core}
use Rattle.options_members.specs.declared.input_field.InputField.{InputField}
use Rattle.options_members.specs.declared.input_variant.InputVariant.{InputVariant}
use Rattle.options_members.specs.Body.{Body, is_skipped_variant}

-- the same default; what is inherited is the member of this name
abbrev pub IsDefault : Ident → Shown → DefaultExpression → Type 0
IsDefault ident (shown.Inherit name) defaults.Inherit = name.now ≡ ident
IsDefault ident (shown.Explicit callable) (defaults.Explicit it) = callable.now ≡ it
IsDefault ident (shown.Trait span) (defaults.Trait it) = span ≡ it
IsDefault ident _ _ = ⊥

abbrev pub AreDefaults : Ident → Option Shown → Option DefaultExpression → Type 0
AreDefaults ident None None = Unit {0}
AreDefaults ident (Some left) (Some it) = IsDefault ident left it
AreDefaults ident _ _ = ⊥

-- what converts an item by its type stands where the type does
abbrev pub StandsAt : Type' → OverrideableCallable → Type 0
StandsAt ty (callables.Custom call) = Unit {0}
StandsAt ty (callables.Default span) = span ≡ type_span ty

-- what is compiled from the options of a field
pub record IsField (left : Field) (it : InputField) : Type 0 where
  pub ident : left.ident.now ≡ it.ident
  pub name : left.name_in_attr.now ≡ it.name
  pub ty : left.ty.now ≡ it.ty
  pub skip : left.skip ≡ holds (λ value. value.value) it.skip
  pub flatten : left.flatten ≡ is_some it.flatten.0
  pub multiple : left.multiple ≡ unwrap_or it.multiple false
  pub with : custom left.with_callable ≡ it.with
  pub at : StandsAt it.ty left.with_callable
  pub transform : option_copied left.post_transform ≡ it.post_transform
  pub default : AreDefaults it.ident left.default_expression it.default

-- what is compiled from the options of a variant of the enum of this identifier
pub record IsVariant (ty : Ident) (left : Variant) (it : InputVariant) : Type 0 where
  pub name : left.name_in_attr.now ≡ it.name
  pub ident : left.variant_ident.now ≡ it.ident
  pub ty_ident : left.ty_ident.now ≡ ty
  pub style : left.body.style ≡ it.body.style
  pub fields : AllZip IsField left.body.fields it.body.fields
  pub skip : left.skip ≡ is_skipped_variant it
  pub allow : left.allow_unknown_fields ≡ unwrap_or it.allow_unknown_fields false
  pub transparent : left.transparent ≡ is_some it.transparent.0

-- a struct of these fields, written in the same way, or an enum of these variants
abbrev pub IsBody : Ident → «Data» Variant Field → Body → Type 0
IsBody ty (body.Struct left) (body.Struct it) = (left.style ≡ it.style) × AllZip IsField left.fields it.fields
IsBody ty (body.Enum left) (body.Enum it) = AllZip (IsVariant ty) left it
IsBody ty _ _ = ⊥

-- its members have no place
abbrev pub IsUnplaced : «Data» Variant Field → Type 0
IsUnplaced (body.Struct left) = place left ≡ None
IsUnplaced (body.Enum variants) = Unit {0}

-- what is compiled from the options of a struct or of an enum, whatever it derives
pub record IsImpl (left : TraitImpl) (it : Core) : Type 0 where
  pub ident : left.ident.now ≡ it.ident
  pub generics : left.generics.now ≡ it.generics
  pub members : IsBody it.ident left.body it.body
  pub unplaced : IsUnplaced left.body
  pub default : AreDefaults it.ident left.default it.default
  pub transform : option_copied left.post_transform ≡ it.post_transform
  pub allow : left.allow_unknown_fields ≡ unwrap_or it.allow_unknown_fields false
  pub transparent : left.transparent ≡ is_some it.transparent.0
  pub krate : option_copied left.krate ≡ it.krate

-- a true `word` stands for the variant
abbrev pub has_word : InputVariant → Bool
has_word variant = holds (λ word. word.value) variant.word
