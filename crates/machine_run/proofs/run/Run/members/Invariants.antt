use Rattle.std.proofs.Common.{◌≡◌, [], drop}
use Rattle.machine_read.specs.Scopes.{setting_in}
use Rattle.machine_state.specs.Seen.{state_of}
use Rattle.machine_run.proofs.Building.{behind}
use Rattle.machine_run.proofs.run.Run.members.Given as goal

abbrev pub invariant-loop-init : goal.invariant-loop-init
invariant-loop-init g l =
    let members = behind (setting_in g.H.Host.says l.self.scope.setting) (state_of l.state) in
    members l.members (drop l.init-index l.inits) ≡ members [] l.inits
