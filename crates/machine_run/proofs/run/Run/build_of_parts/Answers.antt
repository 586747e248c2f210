use Rattle.std.proofs.Common.{◌≡◌, true, ap, rules}
use Rattle.std.specs.Option.{option_copied}
use Rattle.machine_outer.specs.Seen.{aside_of}
use Rattle.machine_read.specs.Asked.{asked_of}
use Rattle.machine_read.specs.Building.{are_stored}
use Rattle.machine_read.specs.Scopes.{setting_in}
use Rattle.machine_state.specs.Seen.{receiver_of, state_of}
use Rattle.machine_state.proofs.Steps.{ok_same}
use Rattle.machine_run.specs.Steps.{reached}
use Rattle.machine_run.proofs.Building.{built_on}
use Rattle.machine_run.proofs.run.Run.build_of_parts.Goals as goal

pub returns-else-not-are_stored : goal.returns-else-not-are_stored
returns-else-not-are_stored g c =
    let run = c.args.self.now in
    let standing = c.args.standing.now in
    let state = state_of standing.state in
    let aside = aside_of standing.aside in
    let stored : true ≡ are_stored aside c.args.parts.now = search rules in
    ok_same c.built_of_parts.result (reached standing) _ _
    (built_on (setting_in g.H.Host.says run.scope.setting) (receiver_of run.receiver) (asked_of c.args.asked) aside c.args.name.now
    (option_copied c.args.variant) c.args.parts.now c.args.inits.now state (reached standing c.args.progress) (ap (reached standing) c.in-None.ensures) stored)
    (c.built_of_parts.ensures state aside)
