use Rattle.std.proofs.Common.{◌∙◌, ap}
use Rattle.std.specs.Prelude.{option_and_then}
use Rattle.machine_state.proofs.Steps.{ok_same}
use Rattle.machine_execute.specs.Elements.{element_of, machine_on, unit_on}
use Rattle.machine_execute.proofs.prepared.Prepared.try_execute.Goals as goal

pub returns : goal.returns
returns g c =
    let host = g.H.Host.says c.args.host.now in
    let program = c.self.inside.program.now in
    let element = element_of c.args.element in
    ok_same c.run_unit.result (λ found. found) (unit_on host program c.in-Some.unit.now element) (machine_on host c.args.self.now c.args.unit element)
    (ap (option_and_then (λ unit. unit_on host program unit element)) c.in-Some.ensures.value ∙ ap (λ program. machine_on host program c.args.unit element) c.self.view_is)
    c.run_unit.ensures
