-- Declarations as their options leave them: fields, and the fallback of a field.
use Rattle.std.specs.Prelude.{ℕ, Bool, true, false, cond, not, List, [], ◌∷◌, Option, Some, None}
use Rattle.base_core.specs.declared.text.Text.{Text}
use Rattle.node_expr.specs.declared.ty.«Type».{«Type» as Type'}
use Rattle.codegen_program.specs.declared.callable.Callable.{Callable}
use Rattle.codegen_program.specs.declared.arm.PostfixTransform.{PostfixTransform}

-- a field has one value, one for each of its items, or what no other field takes
pub data Shape : Type 0 where
  Single : Shape
  Many : Shape
  Flat : Shape

-- a default: that of the type, or the answer of a callable
pub data Default : Type 0 where
  ByType : Default
  ByCall : Callable → Default

-- a field: `member` in the struct that is built, `name` in the items that are read
pub record FieldDecl : Type 0 where
  pub member : Text
  pub name : Text
  pub type : Type'
  pub shape : Shape
  pub skip : Bool
  pub default : Option Default
  pub with : Option Callable
  pub transform : Option PostfixTransform

-- what a struct reads of items: its fields, its own default, and whether it allows items that no field owns
pub record BodyDecl : Type 0 where
  pub fields : List FieldDecl
  pub default : Option Default
  pub allows_unknown : Bool

-- a declaration: its number among all, its type, and the names of the attributes that it reads
pub record Decl : Type 0 where
  pub number : ℕ
  pub name : Text
  pub type : Type'
  pub attributes : List Text
  pub body : BodyDecl
  pub transform : Option PostfixTransform

-- the field is neither skipped nor flattened, so items name it
abbrev pub is_named_by : Shape → Bool → Bool
is_named_by Single skip = not skip
is_named_by Many skip = not skip
is_named_by Flat skip = false

abbrev pub is_named : FieldDecl → Bool
is_named field = is_named_by field.shape field.skip

-- the names of the fields that items name
abbrev pub names : List FieldDecl → List Text
names [] = []
names (field ∷ fields) = cond (is_named field) (field.name ∷ names fields) (names fields)

-- the field has a value for each of its items
abbrev pub is_many : Shape → Bool
is_many Single = false
is_many Many = true
is_many Flat = false

abbrev pub is_flat : Shape → Bool
is_flat Flat = true
is_flat Single = false
is_flat Many = false

abbrev pub has_flat : List FieldDecl → Bool
has_flat [] = false
has_flat (field ∷ fields) = cond (is_flat field.shape) true (has_flat fields)

-- what stands for a value that no item gives: the type's default, a callable's answer, or the member of the
-- container's default
pub data Fallback : Type 0 where
  OfType : Fallback
  OfCall : Callable → Fallback
  OfContainer : Text → Fallback

-- a skipped field falls back on its type
abbrev pub skip_fallback : Bool → Option Fallback
skip_fallback true = Some OfType
skip_fallback false = None

-- the container's default, where it has one
abbrev pub container_fallback : FieldDecl → Option Default → Option Fallback
container_fallback field (Some default) = Some (OfContainer field.member)
container_fallback field None = skip_fallback field.skip

-- the field's own default, where it has one
abbrev pub fallback_by : FieldDecl → Option Default → Option Default → Option Fallback
fallback_by field container (Some ByType) = Some OfType
fallback_by field container (Some (ByCall callable)) = Some (OfCall callable)
fallback_by field container None = container_fallback field container

-- the fallback of a field: its own default, else the container's member, else the type's where it is skipped
abbrev pub fallback : BodyDecl → FieldDecl → Option Fallback
fallback body field = fallback_by field body.default field.default
