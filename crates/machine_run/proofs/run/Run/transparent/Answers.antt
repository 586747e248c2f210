use Rattle.std.proofs.Common.{◌∙◌, Err, ap, sym}
use Rattle.tok_types.specs.Ident.{ident_text}
use Rattle.error_core.proofs.AnswersLemmas.{answers-on_value}
use Rattle.error_fault.specs.Outcome as outcomes
use Rattle.error_fault.specs.Outcome.{Outcome, on_value}
use Rattle.machine_read.specs.Convert.{cells}
use Rattle.machine_read.specs.Dispatch.{from_meta}
use Rattle.machine_read.specs.Reads.{metas}
use Rattle.machine_read.specs.Scopes.{setting_in}
use Rattle.machine_state.specs.Seen.{receiver_of}
use Rattle.machine_steps.specs.Variants.{wrapped}
use Rattle.machine_value.specs.declared.value.Value.{Value as Datum}
use Rattle.machine_run.proofs.run.Run.transparent.Goals as goal

pub returns-in_ok-variant-in-Ok : goal.returns-in_ok-variant-in-Ok
returns-in_ok-variant-in-Ok g c =
    let arm = c.args.arm.now in
    let wrap = wrapped (receiver_of c.args.self.now.receiver).name (ident_text arm.ident) c.args.member.now in
    let told : Outcome Datum → Outcome Datum = λ outcome. on_value wrap (outcomes.under arm.name outcome) in
    ap told (c.in-Ok.ensures (outcomes.Value c.in-Ok.value)) ∙ ap outcomes.Value (sym c.in_ok-variant-in-Ok.ensures)

pub returns-in_ok-located-in-Err : goal.returns-in_ok-located-in-Err
returns-in_ok-located-in-Err g c =
    let run = c.args.self.now in
    let arm = c.args.arm.now in
    let wrap = wrapped (receiver_of run.receiver).name (ident_text arm.ident) c.args.member.now in
    let earlier = metas (g.D.Declared.earlier run.scope.declared.now) in
    let read = from_meta (cells (setting_in g.H.Host.says run.scope.setting) earlier c.args.ty.now) c.args.item.now in
    answers-on_value wrap (Err c.in_ok-located-in-Err.field-0) (outcomes.under arm.name read)
    (c.in_ok-located-in-Err.ensures read (c.in-Err.ensures read))
