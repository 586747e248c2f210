-- What a unit has of its declaration.
use Rattle.std.specs.Prelude.{◌≡◌, ◌<◌, ◌^◌, ℕ, false, List, length, map, filter_map, Option, Some, None, All, IfSome}
use Rattle.std.specs.List.{enumerate_from}
use Rattle.tok_types.specs.declared.ident.Ident.{Ident}
use Rattle.node_expr.specs.declared.ty.«Type».{«Type» as Type'}
use Rattle.node_core.specs.declared.data.Field.{Field}
use Rattle.node_core.specs.declared.derive.DeriveInput.{DeriveInput}
use Rattle.codegen_program.specs.declared.program.Func.{Func}
use Rattle.codegen_program.specs.declared.program.«Unit».{«Unit» as Unit'}
use Rattle.codegen_program.specs.declared.stmt.Stmt.{Stmt, out-Stmt}
use Rattle.codegen_program.specs.declared.stmt.Stmt.TheOpen.{Stmt-F}
use Rattle.codegen_core.specs.Compiled.{is_usual}
use Rattle.law_options.specs.Body.{field_ident}
use Rattle.law_options.specs.Members.{body_fields}
use Rattle.run_accepted.specs.Attributes.{generics_without}

-- the identifier and the type of a field
abbrev pub Member : Type 0
Member = Ident × Type'

abbrev pub member_of : Field → Member
member_of field = (field_ident field, field.ty)

-- a slot: its number, and the field whose value it takes
abbrev pub Slot : Type 0
Slot = ℕ × Member

-- the slot that a statement declares
abbrev pub layer_slot : Stmt-F Stmt → Option Slot
layer_slot (Stmt-F.DeclareOne number ident type) = Some (number, (ident, type))
layer_slot (Stmt-F.DeclareMany number ident type) = Some (number, (ident, type))
layer_slot _ = None

abbrev pub stmt_slot : Stmt → Option Slot
stmt_slot stmt = layer_slot (out-Stmt stmt)

-- the slots that a function declares, in the order of its statements
abbrev pub slots_of : Func → List Slot
slots_of func = filter_map stmt_slot func.stmts

-- the slots of members: numbered from 0, in order
abbrev pub numbered : List Member → List Slot
numbered members = enumerate_from 0 members

-- The unit has the identifier and the parameters of its declaration, attributes aside. Each of its functions declares a slot
-- for each field, in order. No path to `darling` that it names is the usual one.
pub record IsOfDeclaration (decl : DeriveInput) (unit : Unit') : Type 0 where
  pub ident : unit.ident ≡ decl.ident
  pub generics : generics_without unit.generics ≡ decl.generics
  pub slots : All (λ func. slots_of func ≡ numbered (map member_of (body_fields decl.body))) unit.funcs
  pub few : length (body_fields decl.body) < 2 ^ 32
  pub krate : IfSome unit.krate (λ path. is_usual path ≡ false)
