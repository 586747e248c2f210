use Rattle.std.proofs.Common.{◌≡◌, drop, fold}
use Rattle.machine_read.specs.Scopes.{under}
use Rattle.machine_read.specs.State.{step}
use Rattle.machine_state.specs.Seen.{state_of}
use Rattle.machine_run.proofs.run.Run.take_items.Given as goal

abbrev pub invariant-loop-item : goal.invariant-loop-item
invariant-loop-item g l =
    let taken = fold (under g.H.Host.says g.D.Declared.earlier l.self.scope step l.arms l.rest) in
    taken (state_of l.state) (drop l.item-index l.items) ≡ taken (state_of l.initial.state) l.items
