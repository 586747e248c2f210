-- A statement has done its step.
use Rattle.std.proofs.Common.{◌≡◌, Result, ap, sym, ◌∙◌}
use Rattle.std.specs.declared.alloc.AllocError.{AllocError}
use Rattle.codegen_program.specs.declared.stmt.Stmt.{Stmt}
use Rattle.machine_outer.specs.Seen.{aside_of}
use Rattle.machine_read.specs.HostSays.{HostSays}
use Rattle.machine_read.specs.Reads.{Before}
use Rattle.machine_read.specs.Asked.{Asked}
use Rattle.machine_read.specs.Progress.{Progress}
use Rattle.machine_read.specs.Statements.{Doing, does}
use Rattle.machine_state.specs.declared.progress.Progress.{Progress as Come}
use Rattle.machine_state.specs.declared.state.State.{State as Stands}
use Rattle.machine_state.specs.Steps.{Goes}
use Rattle.machine_state.proofs.Steps.{ok_same}
use Rattle.machine_run.specs.declared.run.Run.{Run}
use Rattle.machine_run.specs.declared.standing.Standing.{Standing}
use Rattle.machine_run.specs.Runs.{in_run}
use Rattle.machine_run.specs.Steps.{Proceeds, reached}

module _ {H D : Type 0} (says : H → HostSays) (earlier : D → Before) (run : Run H D)
    (asked : Asked) (old : Standing) (before : Come) (it : Stmt) where
  -- a statement that is another's equal does what that does
  pub acted : (variant : Stmt) (step : Doing) (new : Standing) (result : Result Come AllocError) → it ≡ variant
      → ((asked : Asked) (progress : Progress) → in_run says earlier run does variant asked progress ≡ step asked progress)
      → Proceeds (step asked) old before new result → Proceeds (in_run says earlier run does it asked) old before new result
  acted variant step new result is steps known =
      let progress = reached old before in
      ok_same result (reached new) (step asked progress) (in_run says earlier run does it asked progress)
      (sym (steps asked progress) ∙ ap (λ s. in_run says earlier run does s asked progress) (sym is)) known

  -- and so where the state alone goes on
  pub moved : (variant : Stmt) (step : Doing) (new : Stands) (result : Result Come AllocError) → it ≡ variant
      → ((asked : Asked) (progress : Progress) → in_run says earlier run does variant asked progress ≡ step asked progress)
      → Goes (step asked) old.state before new result
      → Proceeds (in_run says earlier run does it asked) old before (record old { state = new }) result
  moved variant step new result is steps known = acted variant step (record old { state = new }) result is steps (known (aside_of old.aside))
