use Rattle.std.proofs.Common.{◌≡◌, length, map}
use Rattle.machine_read.specs.State.{declared}
use Rattle.machine_state.specs.Seen.{slot_of}
use Rattle.machine_state.proofs.state.declare_at.Given as goal

abbrev pub invariant-loop-at : goal.invariant-loop-at
invariant-loop-at l =
    let slots = declared l.number (slot_of l.slot) in
    (length l.slots ≡ l._at) × (slots (map slot_of l.slots) ≡ slots (map slot_of l.initial.slots))
