-- The laws of a host.
use Rattle.std.specs.Prelude.{◌≡◌, List, Option, IfSome, IsTrue}
use Rattle.node_expr.specs.declared.ty.«Type».{«Type» as Type'}
use Rattle.node_core.specs.declared.derive.DeriveInput.{DeriveInput}
use Rattle.codegen_program.specs.declared.callable.Callable.{Callable}
use Rattle.machine_host.specs.declared.place.Place.{Place}
use Rattle.machine_host.specs.declared.place.Use.TheVariants as use_at
use Rattle.machine_host.specs.declared.said.Said.{Said}
use Rattle.machine_host.specs.declared.said.Said.TheVariants as said
use Rattle.machine_host.specs.Decls.{Fits}
use Rattle.machine_host.specs.Fits.{type_name}
use Rattle.machine_host.specs.Forms.{Form, IsHostOf}
use Rattle.machine_host.specs.HostSays.{HostSays}
use Rattle.machine_host.specs.Seen.{SeenArg, SeenItem}

-- a value that is given is such, and absence is as `Absent` says
abbrev pub IsProper : Form → Type 0 → Said → Type 0
IsProper FitsIn Absent (said.Given value) = FitsIn value
IsProper FitsIn Absent said.Absent = Absent
IsProper FitsIn Absent (said.Faults fault more) = Unit {0}

-- What a host gives fits the type that is asked for, and it gives nothing only for the value of no item.
pub record IsLawful (host : HostSays) : Type 0 where
  pub answer : (decls : List DeriveInput) (call : Option Callable) (place : Place) (arg : SeenArg) → IsTrue (host.offers decls call place)
      → IsProper (Fits decls place.ty) (place.at ≡ use_at.FromNone) (host.answer decls call place arg)
  pub default_of : (decls : List DeriveInput) (ty : Type') → IsTrue (host.has_default decls ty) → Fits decls ty (host.default_of decls ty)
  pub convert : (ty : Type') (item : SeenItem) → IsTrue (host.knows ty) → IsProper (IsHostOf (type_name ty)) ⊥ (host.convert ty item)
  pub none_of : (ty : Type') → IsTrue (host.knows ty) → IfSome (host.none_of ty) (IsHostOf (type_name ty))
