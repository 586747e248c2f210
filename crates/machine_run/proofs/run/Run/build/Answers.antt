use Rattle.std.proofs.Common.{rules}
use Rattle.machine_state.specs.Seen.{state_of}
use Rattle.machine_state.proofs.Stopped.{goes_on}
use Rattle.machine_run.proofs.run.Run.build.Goals as goal

pub returns-in-None : goal.returns-in-None
returns-in-None g c aside =
    let known = c.built.ensures (state_of c.args.state.now) aside in
    search (rules, known, goes_on)
