use Rattle.std.proofs.Common.{ap, sym}
use Rattle.machine_read.specs.Reads.{metas}
use Rattle.machine_read.specs.Scopes.{setting_in}
use Rattle.machine_state.specs.Chosen.{chosen_by}
use Rattle.machine_state.specs.Seen.{receiver_of}
use Rattle.machine_steps.specs.Variants as spec
use Rattle.machine_state.proofs.Steps.{ok_same}
use Rattle.machine_run.proofs.run.Run.one_item.Goals as goal

pub returns-in-Lit : goal.returns-in-Lit
returns-in-Lit g c inside state aside =
    let run = c.args.self.now in
    let earlier = metas (g.D.Declared.earlier run.scope.declared.now) in
    let read = spec.one_item (setting_in g.H.Host.says run.scope.setting) earlier (receiver_of run.receiver).name inside c.args.names.now c.args.arms.now in
    ok_same c.refused_format.result (chosen_by inside state aside) _ _ (sym (ap read c.in-Lit.is)) (c.refused_format.ensures inside state aside)

pub returns-in-NameValueInvalidExpr : goal.returns-in-NameValueInvalidExpr
returns-in-NameValueInvalidExpr g c inside state aside =
    let run = c.args.self.now in
    let earlier = metas (g.D.Declared.earlier run.scope.declared.now) in
    let read = spec.one_item (setting_in g.H.Host.says run.scope.setting) earlier (receiver_of run.receiver).name inside c.args.names.now c.args.arms.now in
    let call = c.refused_format-in-NameValueInvalidExpr in
    ok_same call.result (chosen_by inside state aside) _ _ (sym (ap read c.in-NameValueInvalidExpr.is)) (call.ensures inside state aside)
