-- What a declaration is read under: the host, and the declarations of the text.
use Rattle.std.specs.Prelude.{List, Option, Some}
use Rattle.node_core.specs.declared.derive.DeriveInput.{DeriveInput}
use Rattle.node_expr.specs.declared.path.Path.{Path}
use Rattle.node_expr.specs.declared.ty.«Type».{«Type» as Type'}
use Rattle.error_fault.specs.Outcome.{Outcome, Value, Faults}
use Rattle.law_spans.specs.Erased.{erased_expr}
use Rattle.codegen_program.specs.Callables.{path_call}
use Rattle.codegen_program.specs.declared.callable.Callable.{Callable}
use Rattle.machine_host.specs.Decls.{decl_names}
use Rattle.machine_host.specs.HostSays.{HostSays, erased_decls, erased_place}
use Rattle.machine_host.specs.Seen.{SeenArg}
use Rattle.machine_host.specs.declared.place.Use.{Use}
use Rattle.machine_host.specs.declared.said.Said.{Said}
use Rattle.machine_host.specs.declared.said.Said.TheVariants as said
use Rattle.machine_rows.specs.Rows.{row_of}
use Rattle.machine_rows.specs.declared.row.Row.{Row}
use Rattle.machine_value.specs.Members.{no_value}
use Rattle.machine_value.specs.declared.value.Value.{Value as Datum}

-- the declarations stand without attributes
pub record Setting : Type 0 where
  pub host : HostSays
  pub decls : List DeriveInput

-- what the host says; nothing is said only for the value of no item, which is asked for elsewhere
abbrev pub outcome_of : Said → Outcome Datum
outcome_of (said.Given value) = Value value
outcome_of said.Absent = Value no_value
outcome_of (said.Faults fault more) = Faults fault more

-- what a path calls
abbrev pub called : Path → Callable
called path = record { call = path_call path }

abbrev pub without_places : Callable → Callable
without_places callable = record { call = erased_expr callable.call }

module _ (setting : Setting) where
  -- the row that a type is
  abbrev pub row : Type' → Row
  row type = row_of (decl_names setting.decls) type

  -- what the host answers where it is asked for a type, by a callable or by none
  abbrev pub answer : Option Callable → Use → Type' → SeenArg → Said
  answer call use_at type arg =
      setting.host.answer (erased_decls setting.decls) call (erased_place (record { at = use_at; ty = type })) arg

  -- what a callable answers where it is asked for a type
  abbrev pub ask : Callable → Use → Type' → SeenArg → Outcome Datum
  ask callable use_at type arg = outcome_of (answer (Some (without_places callable)) use_at type arg)
