-- What is claimed of the units of a program that fits its host.
use Rattle.std.specs.Prelude.{◌≡◌, true, [], Some, Contains, slice_get}
use Rattle.node_core.specs.declared.derive.DeriveInput.{DeriveInput}
use Rattle.codegen_program.specs.declared.program.Program.{Program}
use Rattle.codegen_program.specs.declared.program.«Unit».{«Unit» as Unit'}
use Rattle.codegen_core.specs.Compiled.{compiled_list}
use Rattle.codegen_core.specs.declared.from_meta_impl.FromMetaImpl.{FromMetaImpl}
use Rattle.law_fits.specs.HostSays.{HostSays}
use Rattle.law_fits.specs.Callables.{unknown_callables}
use Rattle.law_fits.specs.Types.{unknown_types}
use Rattle.law_fits.specs.Decl.{Decl}
use Rattle.law_machine.specs.Compiles.{IsDecl, IsInputUnit}
use Rattle.law_fits.specs.Claims.{has_names}
use Rattle.law_asks.specs.Asked.{IsMet, IsOf}

-- what the unit asks by which items of a text are read as the declaration, is there; it reads items where attributes are named
abbrev pub InputIsMet : Type 0
InputIsMet =
    (host : HostSays) (program : Program) (unit : Unit') (decl : Decl) (declared : DeriveInput)
    → Contains program.units unit → unit.decl ≡ decl.number → IsInputUnit unit decl
    → unknown_types host program ≡ [] → unknown_callables host program ≡ []
    → slice_get program.decls decl.number ≡ Some declared → IsOf declared decl
    → IsMet host program decl (has_names decl.attributes)

-- what the unit asks by which a list of items is read as the declaration, is there
abbrev pub ItemsAreMet : Type 0
ItemsAreMet =
    (host : HostSays) (program : Program) (unit : Unit') (decl : Decl) (declared : DeriveInput) (left : FromMetaImpl)
    → Contains program.units unit → unit.decl ≡ decl.number → unit ≡ compiled_list left unit.decl → IsDecl left.base decl
    → unknown_types host program ≡ [] → unknown_callables host program ≡ []
    → slice_get program.decls decl.number ≡ Some declared → IsOf declared decl
    → IsMet host program decl true
