-- What a lawful host answers fits the type for which it is asked.
use Rattle.std.proofs.Common.{◌≡◌, Some}
use Rattle.node_expr.specs.declared.ty.«Type».{«Type» as Type'}
use Rattle.codegen_program.specs.declared.callable.Callable.{Callable}
use Rattle.codegen_program.specs.declared.program.Program.{Program}
use Rattle.meaning_core.specs.Decls.{Fits}
use Rattle.law_spans.specs.Erased.{erased_type}
use Rattle.meaning_core.specs.HostSays.{HostSays, erased_decls, erased_place}
use Rattle.meaning_core.specs.Lawful.{IsLawful, IsProper}
use Rattle.law_cells.specs.Seen.{SeenArg}
use Rattle.law_cells.specs.Use.{Use}
use Rattle.law_cells.specs.Use.TheVariants as use_at
use Rattle.law_cells.specs.Said.{Said}
use Rattle.law_cells.specs.Said.TheVariants as said
use Rattle.machine_fit.specs.Machine.{setting_of}
use Rattle.machine_fit.specs.Setting.{ask, outcome_of, without_places}
use Rattle.law_cells.specs.Reads.{OnValue}
use Rattle.law_fits.specs.Sound.{IsOffered}
use Rattle.law_fits.proofs.Bare.{bare_fits}

pub answers_fit : (host : HostSays) (program : Program) (at : Use) (type : Type') (callable : Callable) (arg : SeenArg) → IsLawful host → (at ≡ use_at.FromNone → ⊥)
    → IsOffered host program at type callable → OnValue (Fits program.decls type) (ask (setting_of host program) callable at type arg)
answers_fit host program at type callable arg lawful other offered =
    by (host.answer (erased_decls program.decls) (Some (without_places callable)) (erased_place (record { at = at; ty = type })) arg)
    (lawful.answer (erased_decls program.decls) (Some (without_places callable)) (erased_place (record { at = at; ty = type })) arg offered)
  where
    by : (it : Said) → IsProper (Fits (erased_decls program.decls) (erased_type type)) (at ≡ use_at.FromNone) it → OnValue (Fits program.decls type) (outcome_of it)
    by (said.Given value) h = bare_fits program.decls type value h
    by said.Absent h = absurd (other h)
    by (said.Faults fault more) h = tt
