use Rattle.std.proofs.Common.{◌++◌, flat_map, map, ap, ◌∙◌}
use Rattle.error_fault.specs.Outcome.{faults_of}
use Rattle.error_core.specs.ErrorView.{held}
use Rattle.error_core.proofs.AnswersLemmas.{answers-every}
use Rattle.body_core.proofs.ast.members.read_members.Goals as goal

pub returns-in-Ok : goal.returns-in-Ok
returns-in-Ok g c =
    let faults = flat_map (λ node. faults_of (g.R.ReadMember.meaning node)) c.args.nodes.now in
    answers-every (map g.R.ReadMember.seen) g.R.ReadMember.meaning c.args.nodes.now c.finish_with.result _ c.in-Ok.members
    c.in-Ok.ensures.values
    (c.in-Ok.ensures.faults ∙ ap (λ first. held first ++ faults) c.accumulator-errors.ensures)
    c.finish_with.ensures.answer
