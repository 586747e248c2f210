-- What a run that is over becomes.
use Rattle.std.proofs.Common.{◌≡◌, ap}
use Rattle.machine_read.specs.Progress.{Aside, Progress, going}
use Rattle.machine_read.specs.State.{State}
use Rattle.machine_state.specs.declared.progress.Progress.{Progress as Come}
use Rattle.machine_state.specs.declared.progress.Progress.TheVariants as come
use Rattle.machine_state.specs.Seen.{IsStopped, progress_of}

-- it asks no statement
pub goes_over : (over progress : Come) (before after : State) (beside behind : Aside) (next : State → Aside → Progress) → IsStopped progress over
    → progress_of after behind over ≡ going next (progress_of before beside progress)
goes_over over come.Going before after beside behind next is = absurd is
goes_over over (come.Built answer) before after beside behind next is = ap (progress_of after behind) is
goes_over over (come.Ended error) before after beside behind next is = ap (progress_of after behind) is
goes_over over come.Stuck before after beside behind next is = ap (progress_of after behind) is

-- where it goes on the statement follows
pub goes_on : (progress : Come) (before : State) (beside : Aside) (next : State → Aside → Progress) → progress ≡ come.Going
    → going next (progress_of before beside progress) ≡ next before beside
goes_on progress before beside next is = ap (λ it. going next (progress_of before beside it)) is
