use Rattle.std.proofs.Common.{sym, subst}
use Rattle.error_core.specs.Answers.{Answers}
use Rattle.machine_read.specs.Asked.{asked_of, element_asked}
use Rattle.machine_read.specs.Convert.{cells}
use Rattle.machine_read.specs.Progress.{Built}
use Rattle.machine_read.specs.Reads.{metas}
use Rattle.machine_read.specs.Scopes.{setting_in}
use Rattle.machine_steps.specs.Calls.{by_call, delegate}
use Rattle.machine_steps.specs.Outer.{outer}
use Rattle.machine_steps.specs.declared.asked.Asked.{Asked as Held}
use Rattle.machine_state.proofs.Stops.{stops_on}
use Rattle.machine_run.proofs.run.Run.delegate.Goals as goal

pub returns-in-Cell : goal.returns-in-Cell
returns-in-Cell g c =
    let run = c.args.self.now in
    let setting = setting_in g.H.Host.says run.scope.setting in
    let before = g.D.Declared.earlier run.scope.declared.now in
    let asked = asked_of c.args.asked in
    let element = outer setting before c.args.ty.now (element_asked asked) in
    let read = by_call (cells setting (metas before) c.args.ty.now) element in
    let answers : Answers (λ it. it) c.answer-answer.result (read asked) =
    subst (λ (held : Held). Answers (λ it. it) c.answer-answer.result (read (asked_of held))) (sym c.in-Cell.is) (c.answer-answer.ensures element) in
    stops_on (Built (delegate setting before c.args.name.now c.args.member.now c.args.ty.now asked)) c.args.progress c.of.result c.in-None.ensures
    (c.of.ensures _ (c.alone_of.ensures _ answers))
