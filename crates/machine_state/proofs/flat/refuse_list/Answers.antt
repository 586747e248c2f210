use Rattle.machine_read.specs.Attributes.{on_items, refuse}
use Rattle.machine_state.specs.Seen.{progress_of, state_of}
use Rattle.machine_state.proofs.Listless.{listless}
use Rattle.machine_state.proofs.Steps.{ok_same}
use Rattle.machine_state.proofs.flat.refuse_list.Goals as goal

pub returns : goal.returns
returns c read outcome is aside =
    let before = progress_of (state_of c.args.state.now) aside c.args.progress in
    ok_same c.refuse.result (progress_of (state_of c.refuse.new.state) aside) (refuse c.in_ok-faults.faults before) (on_items read outcome before)
    (listless read before c.args.fail c.in_ok-faults.faults c.in_ok-faults.ensures outcome is) (c.refuse.ensures aside)
