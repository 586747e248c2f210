use Rattle.machine_state.proofs.Held.{put-again}
use Rattle.machine_state.proofs.state.State.take.Goals as goal

pub returns-then-place-len-clause-others : goal.returns-then-place-len-clause-others
returns-then-place-len-clause-others c change =
    let it = c.args.self.now in
    put-again it.slots c.replace.new.self it.faults it.kept it.whole c.args.place _ change c.replace.ensures.rest
