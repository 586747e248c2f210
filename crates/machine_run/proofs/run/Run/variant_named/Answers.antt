use Rattle.std.proofs.Common.{◌≡◌, ◌∙◌, Some, None, ap, subst, sym, rules}
use Rattle.std.specs.List.{find}
use Rattle.std.specs.Str.{bytes_eq}
use Rattle.error_core.specs.Answers.{Answers, refusal}
use Rattle.error_fault.specs.Outcome.{Outcome}
use Rattle.machine_read.specs.Reads.{metas}
use Rattle.machine_read.specs.Scopes.{setting_in}
use Rattle.machine_state.specs.Seen.{receiver_of}
use Rattle.machine_value.specs.declared.value.Value.{Value as Datum}
use Rattle.machine_run.proofs.Found.{of_first_unit, of_unit}
use Rattle.machine_run.proofs.run.Run.variant_named.Goals as goal

pub returns-in-Some : goal.returns-in-Some
returns-in-Some g c =
    let run = c.args.self.now in
    let setting = setting_in g.H.Host.says run.scope.setting in
    let earlier = metas (g.D.Declared.earlier run.scope.declared.now) in
    let enum = (receiver_of run.receiver).name in
    let names = c.args.names.now in
    let text = c.args.text.now in
    let found : Some c.in-Some.arm.now ≡ find (λ arm. bytes_eq arm.name text) c.args.arms.now = search rules in
    subst (λ (it : Outcome Datum). Answers (λ it. it) c.by_unit_form.result it)
    (ap (of_unit setting earlier enum names text) found ∙ of_first_unit setting earlier enum names text c.args.arms.now) c.by_unit_form.ensures

pub returns-in_ok-unknown_value-in-None : goal.returns-in_ok-unknown_value-in-None
returns-in_ok-unknown_value-in-None g c =
    let run = c.args.self.now in
    let setting = setting_in g.H.Host.says run.scope.setting in
    let earlier = metas (g.D.Declared.earlier run.scope.declared.now) in
    let enum = (receiver_of run.receiver).name in
    let names = c.args.names.now in
    let text = c.args.text.now in
    let found : None ≡ find (λ arm. bytes_eq arm.name text) c.args.arms.now = search rules in
    let refused : of_unit setting earlier enum names text None ≡ refusal {A = Datum} c.in_ok-unknown_value-in-None.field-0 = search rules in
    sym (of_first_unit setting earlier enum names text c.args.arms.now) ∙ sym (ap (of_unit setting earlier enum names text) found) ∙ refused
