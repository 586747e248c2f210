-- A receiver of an item that is read by its attributes alone.
use Rattle.std.specs.Prelude.{◌≡◌, ℕ, false, List, [], ◌∷◌, ◌++◌, None, map}
use Rattle.std.specs.Option.{option_copied}
use Rattle.base_core.specs.declared.text.Text.{Text}
use Rattle.node_make.specs.PathText.{path_text}
use Rattle.codegen_program.specs.declared.forward.Forward.TheVariants as forward
use Rattle.codegen_program.specs.declared.program.Derive.TheVariants as derives
use Rattle.codegen_program.specs.declared.program.FuncName.TheVariants as func
use Rattle.codegen_program.specs.declared.program.«Unit».{«Unit» as Unit'}
use Rattle.codegen_program.specs.declared.shape.ShapeSpec.TheVariants as shapes
use Rattle.codegen_program.specs.declared.stmt.Stmt.{Stmt}
use Rattle.codegen_program.specs.declared.stmt.Stmt.TheVariants as stmt
use Rattle.codegen_core.specs.Compiled.{closing, fields_of, unit_with}
use Rattle.codegen_core.specs.Fields.{declarations}
use Rattle.codegen_core.specs.declared.trait_impl.TraitImpl.{TraitImpl}
use Rattle.codegen_outer.specs.CompiledOuter.{body_whole, over_attributes}
use Rattle.codegen_outer.specs.declared.from_derive_impl.FromDeriveInputImpl.{FromDeriveInputImpl}

-- it takes no part, every shape, and is not read as its one field is
pub record IsBare (it : FromDeriveInputImpl) : Type 0 where
  pub ident : option_copied it.outer.ident ≡ None
  pub vis : option_copied it.vis ≡ None
  pub generics : option_copied it.generics ≡ None
  pub body : option_copied it.body ≡ None
  pub attrs : option_copied it.outer.forward_attrs.field ≡ None
  pub supports : option_copied it.supports ≡ None
  pub own : body_whole it.outer.base.transparent it.outer.base.body ≡ None

-- goes over the attributes of these names, if there are some
abbrev pub over_read : List Text → TraitImpl → List Stmt
over_read names base = over_attributes names forward.Nothing base

abbrev pub bare_stmts : FromDeriveInputImpl → List Stmt
bare_stmts it =
    stmt.DeclareErrors
    ∷ (declarations (fields_of it.outer.base)
    ++ (over_read (map path_text it.outer.attr_names.now.0) it.outer.base
    ++ (stmt.CheckShape shapes.Any ∷ (stmt.ReadBody None None ∷ closing it.outer.from_ident it.outer.base))))

abbrev pub compiled_bare : FromDeriveInputImpl → ℕ → Unit'
compiled_bare it decl =
    unit_with decl derives.FromDeriveInput it.outer.base false (record { name = func.FromDeriveInput; stmts = bare_stmts it } ∷ [])
