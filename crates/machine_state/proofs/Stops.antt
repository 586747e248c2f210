-- What a run becomes that a statement ends, whatever its state is.
use Rattle.std.proofs.Common.{◌≡◌, Result, Ok, sym}
use Rattle.std.specs.declared.alloc.AllocError.{AllocError}
use Rattle.machine_read.specs.Progress.{Progress, going}
use Rattle.machine_state.specs.declared.progress.Progress.{Progress as Come}
use Rattle.machine_state.specs.declared.progress.Progress.TheVariants as come
use Rattle.machine_state.specs.Seen.{IsStopped, progress_of}
use Rattle.machine_state.specs.Steps.{Comes, Stops}
use Rattle.machine_state.proofs.Steps.{ok_same}
use Rattle.machine_state.proofs.Stopped.{goes_on, goes_over}

-- one that is over stays so
pub stops_over : (it : Progress) (before over : Come) → IsStopped before over → Stops it before (Ok over)
stops_over it before over is old after aside = goes_over over before old after aside aside (λ state beside. it) is

-- one that goes on comes to this
pub stops_on : (it : Progress) (before : Come) (result : Result Come AllocError) → before ≡ come.Going → Comes it result → Stops it before result
stops_on it before result is comes old after aside =
    ok_same result (progress_of after aside) it (going (λ state beside. it) (progress_of old aside before)) (sym (goes_on before old aside (λ state beside. it) is))
    (comes after aside)
