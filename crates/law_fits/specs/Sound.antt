-- Declarations that can be run with a host, as options leave them: what is asked of types and of the host is there.
use Rattle.std.specs.Prelude.{◌≡◌, ◌≤◌, ℕ, Bool, true, false, List, [], ◌∷◌, Option, Some, None, All, IfSome, IsTrue, map, slice_get}
use Rattle.std.specs.List.{AllZip, list_any}
use Rattle.std.specs.Str.{bytes_eq}
use Rattle.base_core.specs.declared.text.Text.{Text}
use Rattle.tok_types.specs.Ident.{ident_text}
use Rattle.node_expr.specs.declared.ty.«Type».{«Type» as Type'}
use Rattle.node_core.specs.declared.data.Field.{Field}
use Rattle.node_core.specs.declared.data.Fields.{Fields}
use Rattle.node_core.specs.declared.data.Fields.TheVariants as fields
use Rattle.node_core.specs.declared.data.«Data».{«Data»}
use Rattle.node_core.specs.declared.data.«Data».TheVariants as body
use Rattle.node_core.specs.declared.derive.DeriveInput.{DeriveInput}
use Rattle.syn_grammar.specs.Depth.{type_depth}
use Rattle.syn_grammar.specs.Grammar.{max_depth}
use Rattle.codegen_program.specs.declared.callable.Callable.{Callable}
use Rattle.codegen_program.specs.declared.arm.PostfixTransform.{PostfixTransform}
use Rattle.codegen_program.specs.declared.program.Program.{Program}
use Rattle.machine_rows.specs.Rows.{row_of}
use Rattle.machine_rows.specs.declared.row.Row.TheVariants as row
use Rattle.meaning_core.specs.Decls.{decl_names, member_name}
use Rattle.law_spans.specs.Erased.{erased_path}
use Rattle.meaning_core.specs.HostSays.{HostSays}
use Rattle.meaning_core.specs.Made.{named_type}
use Rattle.law_cells.specs.Use.{Use}
use Rattle.law_cells.specs.Use.TheVariants as use_at
use Rattle.machine_fit.specs.Machine.{setting_of}
use Rattle.machine_fit.specs.Reading.{transform_use}
use Rattle.machine_fit.specs.Setting.{called}
use Rattle.machine_fit.specs.Callables.{converted, offers}
use Rattle.machine_fit.specs.Fits.{field_fits, has_default, type_fits}
use Rattle.meaning_core.specs.Decl.{Decl, Default, ByType, ByCall, FieldDecl, Fallback, OfType, OfCall, OfContainer, fallback, is_many, is_named}
use Rattle.meaning_core.specs.EntryFaults.{element_by}

-- each text is another than those behind it
abbrev pub Differ : List Text → Type 0
Differ [] = Unit {0}
Differ (text ∷ texts) = (list_any (bytes_eq text) texts ≡ false) × Differ texts

-- the field, as its options leave it, has the name and the type of the declared one; the type is no deeper than one of a text
abbrev pub IsFieldOf : Field → FieldDecl → Type 0
IsFieldOf declared field = (member_name declared ≡ field.member) × (declared.ty ≡ field.type) × (type_depth declared.ty ≤ max_depth)

abbrev pub named_of : Fields → Option (List Field)
named_of (fields.Named it) = Some it.named
named_of _ = None

-- the named fields of a struct
abbrev pub named_fields : «Data» → Option (List Field)
named_fields (body.Struct it) = named_of it.fields
named_fields _ = None

-- the name of each declaration is that declaration
abbrev pub AreNamed : List DeriveInput → Type 0
AreNamed decls = (number : ℕ) (decl : DeriveInput) → slice_get decls number ≡ Some decl → row_of (decl_names decls) (named_type decl.ident.text) ≡ row.Declared number

module _ (host : HostSays) (program : Program) where
  -- the host offers what is called there for the type
  abbrev pub IsOffered : Use → Type' → Callable → Type 0
  IsOffered at type callable = IsTrue (offers host program (Some callable) at type)

  -- the transform is offered for the type
  abbrev pub IsTransform : Type' → PostfixTransform → Type 0
  IsTransform type post = IsOffered (transform_use post) type (called post.function)

  -- what stands for a value that no item gives is there
  abbrev pub IsFallback : Type' → Fallback → Type 0
  IsFallback type OfType = IsTrue (has_default host program type)
  IsFallback type (OfCall callable) = IsOffered use_at.Default type callable
  IsFallback type (OfContainer name) = Unit {0}

  -- the default of a declaration of this type is there
  abbrev pub IsDefault : Type' → Default → Type 0
  IsDefault type ByType = IsTrue (has_default host program type)
  IsDefault type (ByCall callable) = IsOffered use_at.Default type callable

  -- The transform of a field takes a type that may stand in the declaration of this number, and is offered for the field's type.
  pub record IsPost (here : ℕ) (type : Type') (post : PostfixTransform) : Type 0 where
    pub taken : Type'
    pub takes : host.takes (erased_path post.function) ≡ Some taken
    pub fits : IsTrue (type_fits host program here false taken)
    pub offered : IsTransform type post

  -- The functions that read items at this type, in the declaration of this number, are offered.
  pub record IsRead (here : ℕ) (type : Type') (field : FieldDecl) : Type 0 where
    pub by : IfSome field.with (IsOffered use_at.With (converted host program field.transform type))
    pub post : IfSome field.transform (IsPost here type)

  -- The type of the field is no deeper than one of a text, and may stand in the declaration; what it falls back to is there; and where items are read (`reads`) and
  -- name the field, so are the functions that read them.
  pub record IsSoundField (decl : Decl) (reads : Bool) (field : FieldDecl) : Type 0 where
    pub shallow : type_depth field.type ≤ max_depth
    pub fits : IsTrue (field_fits host program decl.number false (is_many field.shape) field.type)
    pub falls : IfSome (fallback decl.body field) (IsFallback field.type)
    pub read : reads ≡ true → is_named field ≡ true → IsRead decl.number (element_by (setting_of host program) field.shape field.type) field

  -- A declaration of the program whose options leave it so can be run. `reads` says whether it reads items.
  pub record IsSound (decl : Decl) (reads : Bool) : Type 0 where
    pub declared : DeriveInput
    pub is_declared : slice_get program.decls decl.number ≡ Some declared
    pub named : List Field
    pub is_struct : named_fields declared.body ≡ Some named
    pub name : ident_text declared.ident ≡ decl.name
    pub type : named_type declared.ident.text ≡ decl.type
    pub members : AllZip IsFieldOf named decl.body.fields
    pub fields : All (IsSoundField decl reads) decl.body.fields
    pub differ : Differ (map (λ field. field.member) decl.body.fields)
    pub default : IfSome decl.body.default (IsDefault decl.type)
    pub transform : IfSome decl.transform (IsTransform decl.type)
