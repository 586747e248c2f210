use Rattle.std.proofs.Common.{◌≡◌, ◌∙◌, ap, sym, rules}
use Rattle.std.specs.Prelude.{codes}
use Rattle.tok_types.specs.Ident.{ident_text}
use Rattle.error_core.specs.Answers.{refusal}
use Rattle.error_fault.specs.Outcome as outcomes
use Rattle.machine_read.specs.Reads.{metas}
use Rattle.machine_read.specs.Scopes.{setting_in}
use Rattle.machine_state.specs.Seen.{receiver_of}
use Rattle.machine_steps.specs.Variants as spec
use Rattle.machine_value.specs.declared.value.Value.{Value as Datum}
use Rattle.machine_run.proofs.run.Run.by_unit_form.Goals as goal

pub returns-in_ok-variant-in-Some : goal.returns-in_ok-variant-in-Some
returns-in_ok-variant-in-Some g c =
    let run = c.args.self.now in
    let setting = setting_in g.H.Host.says run.scope.setting in
    let earlier = metas (g.D.Declared.earlier run.scope.declared.now) in
    let enum = (receiver_of run.receiver).name in
    let variant = ident_text c.args.arm.now.ident in
    ap (spec.by_unit_form setting earlier enum variant) c.in-Transparent.is
    ∙ ap (spec.of_none setting earlier enum variant c.in-Transparent.member) (sym c.in_ok-value-in-Transparent.ensures ∙ c.in-Some.is)
    ∙ ap outcomes.Value (sym c.in_ok-variant-in-Some.ensures)

pub returns-in_ok-unsupported_format-in-None : goal.returns-in_ok-unsupported_format-in-None
returns-in_ok-unsupported_format-in-None g c =
    let run = c.args.self.now in
    let setting = setting_in g.H.Host.says run.scope.setting in
    let earlier = metas (g.D.Declared.earlier run.scope.declared.now) in
    let enum = (receiver_of run.receiver).name in
    let variant = ident_text c.args.arm.now.ident in
    let refused : spec.format (codes "literal") ≡ refusal {A = Datum} c.in_ok-unsupported_format-in-None.field-0 = search rules in
    ap (spec.by_unit_form setting earlier enum variant) c.in-Transparent.is
    ∙ ap (spec.of_none setting earlier enum variant c.in-Transparent.member) (sym c.in_ok-value-in-Transparent.ensures ∙ c.in-None.is)
    ∙ refused
