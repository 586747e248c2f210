-- What a program that fits gives of one of its declarations, as the options of the declaration leave it.
use Rattle.std.specs.Prelude.{◌≡◌, Bool, List, Some, All, IfSome, map}
use Rattle.std.specs.List.{AllZip}
use Rattle.tok_types.specs.Ident.{ident_text}
use Rattle.node_core.specs.declared.data.Field.{Field}
use Rattle.node_core.specs.declared.derive.DeriveInput.{DeriveInput}
use Rattle.codegen_program.specs.declared.program.Program.{Program}
use Rattle.law_fits.specs.HostSays.{HostSays}
use Rattle.law_fits.specs.Made.{named_type}
use Rattle.law_fits.specs.Decl.{Decl}
use Rattle.law_fits.specs.Sound.{Differ, IsDefault, IsFieldOf, IsSoundField, IsTransform, named_fields}

-- The declaration is of named fields, and options leave its names, types and fields so.
pub record IsOf (declared : DeriveInput) (decl : Decl) : Type 0 where
  pub named : List Field
  pub is_struct : named_fields declared.body ≡ Some named
  pub name : ident_text declared.ident ≡ decl.name
  pub type : named_type declared.ident.text ≡ decl.type
  pub members : AllZip IsFieldOf named decl.body.fields
  pub differ : Differ (map (λ field. field.member) decl.body.fields)

-- What the unit of the declaration asks of types and of the host is there; `reads` says whether it reads items.
pub record IsMet (host : HostSays) (program : Program) (decl : Decl) (reads : Bool) : Type 0 where
  pub fields : All (IsSoundField host program decl reads) decl.body.fields
  pub default : IfSome decl.body.default (IsDefault host program decl.type)
  pub transform : IfSome decl.transform (IsTransform host program decl.type)
