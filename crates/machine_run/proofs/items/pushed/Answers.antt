use Rattle.std.proofs.Common.{List, length, refl}
use Rattle.error_fault.specs.declared.fault.Fault.{Fault}
use Rattle.machine_read.specs.Reading as reading
use Rattle.machine_read.specs.State as spec
use Rattle.machine_read.specs.State.{Several}
use Rattle.machine_state.specs.Seen.{Change}
use Rattle.machine_state.proofs.Faulty.{AreFaults, faulty}
use Rattle.machine_run.proofs.items.pushed.Goals as goal

pub returns-in_ok-faults-in-Err : goal.returns-in_ok-faults-in-Err
returns-in_ok-faults-in-Err c =
    let made = λ (faults : List Fault). let change : Change = (Several c.args.ty.now c.args.values, faults) in change in
    let label = reading.label c.args.name.now (length c.args.values) in
    let are : AreFaults c.in-Err.fail c.in_ok-faults-in-Err.faults label = rw (c.in_ok-label-in-Err.ensures, c.len.ensures) at c.in_ok-faults-in-Err.ensures in
    faulty label (spec.pushed c.args.ty.now c.args.values c.args.name.now) made (λ fault more. refl) c.args.answer c.in-Err.fail c.in_ok-faults-in-Err.faults c.in-Err.is are
