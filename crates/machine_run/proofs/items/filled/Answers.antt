use Rattle.std.proofs.Common.{List, refl, true, None}
use Rattle.error_fault.specs.declared.fault.Fault.{Fault}
use Rattle.machine_read.specs.State as spec
use Rattle.machine_read.specs.State.{One}
use Rattle.machine_state.specs.Seen.{Change}
use Rattle.machine_state.proofs.Faulty.{faulty}
use Rattle.machine_run.proofs.items.filled.Goals as goal

pub returns-in_ok-faults-in-Err : goal.returns-in_ok-faults-in-Err
returns-in_ok-faults-in-Err c =
    let made = λ (faults : List Fault). let change : Change = (One c.args.ty.now true None, faults) in change in
    faulty c.args.name.now (spec.filled c.args.ty.now c.args.name.now) made (λ fault more. refl) c.args.answer c.in-Err.fail c.in_ok-faults-in-Err.faults c.in-Err.is c.in_ok-faults-in-Err.ensures
