-- What options leave of a declaration, beside the declaration that its meaning speaks of.
use Rattle.std.specs.Prelude.{◌≡◌, ℕ, false, not, List, [], filter, Option, Some, None, option_map, option_and_then, map, slice_get}
use Rattle.std.specs.List.{AllZip}
use Rattle.std.specs.Option.{option_copied}
use Rattle.base_core.specs.declared.text.Text.{Text}
use Rattle.tok_types.specs.Ident.{ident_text}
use Rattle.tok_types.specs.declared.ident.Ident.{Ident}
use Rattle.node_expr.specs.declared.ty.«Type».{«Type» as Type'}
use Rattle.node_make.specs.PathText.{path_text}
use Rattle.node_core.specs.declared.data.Variant.{Variant as Declared}
use Rattle.node_core.specs.declared.derive.DeriveInput.{DeriveInput}
use Rattle.node_core.specs.declared.style.Style.{Style}
use Rattle.node_core.specs.declared.style.Style.TheVariants as style
use Rattle.body_core.specs.declared.ast.data.«Data».{«Data»}
use Rattle.body_core.specs.declared.ast.data.«Data».TheVariants as body
use Rattle.body_core.specs.declared.ast.fields.Fields.{Fields}
use Rattle.codegen_program.specs.declared.callable.Callable.{Callable}
use Rattle.codegen_program.specs.declared.init.DefaultSource.{DefaultSource}
use Rattle.codegen_program.specs.declared.init.DefaultSource.TheVariants as sources
use Rattle.codegen_program.specs.declared.init.Fallback.{Fallback as Falls}
use Rattle.codegen_program.specs.declared.init.Fallback.TheVariants as fallbacks
use Rattle.codegen_program.specs.declared.program.Derive.TheVariants as derives
use Rattle.codegen_program.specs.declared.program.«Unit».{«Unit» as Unit'}
use Rattle.codegen_core.specs.Compiled.{compiled_meta, fields_of, default_of}
use Rattle.codegen_core.specs.Defaults.{custom}
use Rattle.codegen_core.specs.Fields.{fallback_of}
use Rattle.codegen_core.specs.Variants.{member_name, proxy_of, transparent_field}
use Rattle.codegen_core.specs.declared.field.Field.{Field}
use Rattle.codegen_core.specs.declared.from_meta_impl.FromMetaImpl.{FromMetaImpl}
use Rattle.codegen_core.specs.declared.trait_impl.TraitImpl.{TraitImpl}
use Rattle.codegen_core.specs.declared.variant.Variant.{Variant}
use Rattle.codegen_outer.specs.Bare.{IsBare}
use Rattle.codegen_outer.specs.CompiledOuter.{compiled_derive_input}
use Rattle.codegen_outer.specs.declared.from_derive_impl.FromDeriveInputImpl.{FromDeriveInputImpl}
use Rattle.machine_steps.specs.Calls.{word_variant}
use Rattle.machine_execute.specs.Machine.{unit_under, unit_type}
use Rattle.machine_steps.specs.Receivers.{declared_style, declared_variants}
use Rattle.meaning_core.specs.Declarations.{meta_decl}
use Rattle.meaning_core.specs.Decl.{BodyDecl, Decl, FieldDecl, Fallback, OfType, OfCall, OfContainer, Default, ByType, ByCall, fallback, is_flat, is_many}
use Rattle.meaning_core.specs.Receivers.{Bare, ByFields, EnumOf, Form, MetaBody, MetaDecl, OfCallable, OfVariant, StructOf, VariantDecl, Whole, Word, struct_decl}

-- what a field falls back to
abbrev pub meant_fallback : Falls → Fallback
meant_fallback (fallbacks.Inherit ident) = OfContainer (ident_text ident)
meant_fallback (fallbacks.Explicit callable) = OfCall callable
meant_fallback fallbacks.Trait = OfType

-- what the default of a receiver comes from; none is meant by its identifier
abbrev pub meant_default : DefaultSource → Option Default
meant_default sources.Trait = Some ByType
meant_default (sources.Explicit callable) = Some (ByCall callable)
meant_default sources.FromIdent = None

-- the field of the body, as options leave it
pub record IsField (body : BodyDecl) (left : Field) (field : FieldDecl) : Type 0 where
  pub member : ident_text left.ident.now ≡ field.member
  pub name : left.name_in_attr.now ≡ field.name
  pub type : left.ty.now ≡ field.type
  pub many : left.multiple ≡ is_many field.shape
  pub flat : left.flatten ≡ is_flat field.shape
  pub skip : left.skip ≡ field.skip
  pub with : custom left.with_callable ≡ field.with
  pub transform : option_copied left.post_transform ≡ field.transform
  pub fallback : option_map meant_fallback (fallback_of left) ≡ fallback body field

-- the declaration, as options leave it
pub record IsDecl (left : TraitImpl) (decl : Decl) : Type 0 where
  pub name : ident_text left.ident.now ≡ decl.name
  pub fields : AllZip (IsField decl.body) (fields_of left) decl.body.fields
  pub default : option_and_then meant_default (default_of false left) ≡ decl.body.default
  pub transform : option_copied left.post_transform ≡ decl.transform
  pub allows_unknown : left.allow_unknown_fields ≡ decl.body.allows_unknown

-- the same with the names of the attributes that are read, where nothing else of an item is; its default comes from no identifier
pub record IsInputDecl (left : FromDeriveInputImpl) (decl : Decl) : Type 0 where
  pub base : IsDecl left.outer.base decl
  pub attributes : map path_text left.outer.attr_names.now.0 ≡ decl.attributes
  pub bare : IsBare left
  pub no_ident : left.outer.from_ident ≡ false

-- ---- `FromMeta`

-- what a word alone gives: a variant where the callable is its closure
abbrev pub word_by : Callable → Option Ident → Word
word_by callable (Some ident) = OfVariant (ident_text ident)
word_by callable None = OfCallable callable

abbrev pub meant_word : List Declared → Callable → Word
meant_word variants callable = word_by callable (word_variant callable variants)

-- the callables of the declaration, whose variants are these
pub record IsCalled (variants : List Declared) (left : FromMetaImpl) (it : MetaDecl) : Type 0 where
  pub word : option_map (meant_word variants) left.from_word ≡ it.word
  pub none : option_copied left.from_none ≡ it.none
  pub expr : option_copied left.from_expr ≡ it.expr

-- no callable stands in the place of a cell
pub record HasNoCalls (it : MetaDecl) : Type 0 where
  pub word : it.word ≡ None
  pub none : it.none ≡ None
  pub expr : it.expr ≡ None

-- the one member of this name and type
abbrev pub IsMember : Style → Field → Text → Type' → Type 0
IsMember style field member type = (member_name style field ≡ member) × (field.ty.now ≡ type)

-- the fields of a variant, which have no default of a container
pub record IsVariantBody (left : Variant) (body : BodyDecl) : Type 0 where
  pub fields : AllZip (IsField body) left.body.fields body.fields
  pub no_default : body.default ≡ None
  pub allows_unknown : left.allow_unknown_fields ≡ body.allows_unknown

abbrev pub IsOwnForm : Variant → Style → Form → Type 0
IsOwnForm left style.Unit Bare = Unit {0}
IsOwnForm left style.Struct (ByFields body) = IsVariantBody left body
IsOwnForm left _ _ = ⊥

-- how a variant is read; no tuple of several members is
abbrev pub IsVariantForm : Variant → Option Field → Form → Type 0
IsVariantForm left (Some field) (Whole member type) = IsMember left.body.style field member type
IsVariantForm left (Some field) _ = ⊥
IsVariantForm left None form = IsOwnForm left left.body.style form

-- the variant of the enum of this name
pub record IsVariantDecl (enum : Text) (left : Variant) (it : VariantDecl) : Type 0 where
  pub owner : ident_text left.ty_ident.now ≡ enum
  pub ident : ident_text left.variant_ident.now ≡ it.ident
  pub name : left.name_in_attr.now ≡ it.name
  pub form : IsVariantForm left (proxy_of left) it.form

-- the variants that are read
abbrev pub read_variants : List Variant → List Variant
read_variants variants = filter (λ it. not it.skip) variants

abbrev pub IsOwnStruct : List Declared → FromMetaImpl → Fields Field → MetaDecl → Style → Form → Type 0
IsOwnStruct variants left fields it style.Unit Bare = (fields.fields ≡ []) × HasNoCalls it
IsOwnStruct variants left fields it style.Struct (ByFields body) = IsDecl left.base (struct_decl it body) × IsCalled variants left it
IsOwnStruct variants left fields it _ _ = ⊥

-- how a struct is read: as its one field is, by a word, or field by field
abbrev pub IsStructForm : List Declared → FromMetaImpl → Fields Field → MetaDecl → Option Field → Form → Type 0
IsStructForm variants left fields it (Some field) (Whole member type) = IsMember fields.style field member type × HasNoCalls it
IsStructForm variants left fields it (Some field) _ = ⊥
IsStructForm variants left fields it None form = IsOwnStruct variants left fields it fields.style form

abbrev pub IsMetaBody : List Declared → FromMetaImpl → MetaDecl → «Data» Variant Field → MetaBody → Type 0
IsMetaBody variants left it (body.Struct fields) (StructOf form) =
    IsStructForm variants left fields it (transparent_field left.base.transparent fields.style fields.fields) form
IsMetaBody variants left it (body.Enum arms) (EnumOf decls) = AllZip (IsVariantDecl it.name) (read_variants arms) decls × IsCalled variants left it
IsMetaBody variants left it _ _ = ⊥

-- a declaration under `FromMeta` whose variants are these, as options leave it
pub record IsMetaDecl (variants : List Declared) (left : FromMetaImpl) (it : MetaDecl) : Type 0 where
  pub name : ident_text left.base.ident.now ≡ it.name
  pub body : IsMetaBody variants left it left.base.body it.body

-- the unit by which metas are read as the declaration, where either is there
abbrev pub IsMetaUnit : List DeriveInput → Option Unit' → Option MetaDecl → Type 0
IsMetaUnit declared None None = Unit {0}
IsMetaUnit declared None (Some it) = ⊥
IsMetaUnit declared (Some unit) None = ⊥
IsMetaUnit declared (Some unit) (Some it) =
    (left : FromMetaImpl) × (unit ≡ compiled_meta left unit.decl) × IsMetaDecl (declared_variants (slice_get declared unit.decl)) left it × (unit_type unit ≡ it.type)

-- a declaration that metas are read as has its unit, and no other number has one
abbrev pub AreMetaUnits : List DeriveInput → List Unit' → List MetaDecl → Type 0
AreMetaUnits declared units decls = (number : ℕ) → IsMetaUnit declared (unit_under units number derives.FromMeta) (meta_decl decls number)

-- the unit by which items of a text are read as the declaration
abbrev pub IsInputUnit : Unit' → Decl → Type 0
IsInputUnit unit decl =
    (left : FromDeriveInputImpl) × (unit ≡ compiled_derive_input left decl.number) × IsInputDecl left decl × (unit_type unit ≡ decl.type)

-- the struct is declared with braces, where there is a declaration
abbrev pub IsBraced : Option DeriveInput → Type 0
IsBraced decl = declared_style decl ≡ style.Struct
