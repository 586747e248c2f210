use Rattle.std.proofs.Common.{◌≡◌, ap, map, rules, ◌∙◌}
use Rattle.machine_read.specs.Reads.{metas}
use Rattle.machine_read.specs.Scopes.{setting_in}
use Rattle.machine_read.specs.Slots.{read_flat, slot_type}
use Rattle.machine_read.specs.State.{State, slot_at}
use Rattle.machine_state.specs.Seen.{Change, slot_of, state_of}
use Rattle.machine_run.proofs.Reading.{kept_read, put_back}
use Rattle.machine_run.proofs.run.Run.read_kept.Goals as goal

pub returns : goal.returns
returns g c =
    let setting = setting_in g.H.Host.says c.args.self.now.scope.setting in
    let earlier = metas (g.D.Declared.earlier c.args.self.now.scope.declared.now) in
    let old = state_of c.args.state.now in
    let slot = slot_at (map slot_of c.args.state.now.slots) c.args.place in
    let change = read_flat setting earlier c.args.names.now c.args.state.now.kept slot in
    let same : c.take.new.self.kept ≡ c.args.state.now.kept = ap (λ (it : State). it.kept) (c.take.ensures.others change) in
    let all : c.as_slice.result.now ≡ c.args.state.now.kept = search (rules, same) in
    let done : Change = (slot_of c.in_ok-slot.slot, c.in_ok-slot.faults) in
    put_back c.put.result (state_of c.put.new.self) (state_of c.take.new.self) old c.args.place done change c.put.ensures c.take.ensures.others
    (kept_read setting earlier c.args.names.now c.ty-ty.result.now c.as_slice.result.now c.args.state.now.kept slot c.list-answer.result done
    (c.ty-ty.ensures ∙ ap slot_type c.take.ensures.slot) all c.list-answer.ensures c.in_ok-slot.ensures)
