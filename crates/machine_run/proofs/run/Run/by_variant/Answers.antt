use Rattle.std.proofs.Common.{◌≡◌, ◌∙◌, [], Some, None, ap, rules}
use Rattle.std.specs.List.{find}
use Rattle.std.specs.Str.{bytes_eq}
use Rattle.base_core.specs.declared.text.Text.{Text}
use Rattle.error_fault.specs.Fault.{at_span}
use Rattle.error_fault.specs.Kind.{set_of}
use Rattle.error_fault.specs.Outcome.{Faults}
use Rattle.error_fault.specs.declared.kind.FaultKind.TheVariants.{UnknownField}
use Rattle.machine_read.specs.Names.{meta_name}
use Rattle.machine_read.specs.NestedMeta.TheVariants as nested
use Rattle.machine_read.specs.Nodes.{nested_span}
use Rattle.machine_read.specs.Progress.{Built}
use Rattle.machine_read.specs.Reads.{metas}
use Rattle.machine_read.specs.Scopes.{setting_in}
use Rattle.machine_state.specs.Chosen.{chosen_by}
use Rattle.machine_state.specs.Seen.{receiver_of}
use Rattle.machine_run.proofs.Found.{of_arm, of_first}
use Rattle.machine_state.proofs.Steps.{ok_same}
use Rattle.machine_run.proofs.run.Run.by_variant.Goals as goal

pub returns-in-Some : goal.returns-in-Some
returns-in-Some g c inside state aside =
    let run = c.args.self.now in
    let setting = setting_in g.H.Host.says run.scope.setting in
    let earlier = metas (g.D.Declared.earlier run.scope.declared.now) in
    let enum = (receiver_of run.receiver).name in
    let names = c.args.names.now in
    let item = c.args.item.now in
    let found : Some c.in-Some.arm.now ≡ find (λ arm. bytes_eq arm.name (meta_name item)) c.args.arms.now = search rules in
    ok_same c.by_form.result (chosen_by inside state aside) _ _
    (ap (of_arm setting earlier enum names inside (meta_name item) item) found ∙ of_first setting earlier enum names inside (meta_name item) item c.args.arms.now)
    (c.by_form.ensures names inside state aside)

pub returns : goal.returns
returns g c inside state aside =
    let run = c.args.self.now in
    let setting = setting_in g.H.Host.says run.scope.setting in
    let earlier = metas (g.D.Declared.earlier run.scope.declared.now) in
    let enum = (receiver_of run.receiver).name in
    let names = c.args.names.now in
    let item = c.args.item.now in
    let unknown = λ (name : Text). Built (Faults (at_span (UnknownField name (set_of names)) (nested_span (nested.Meta item))) []) in
    let name : c.in_ok-name.name ≡ meta_name item = search rules in
    let found : None ≡ find (λ arm. bytes_eq arm.name (meta_name item)) c.args.arms.now = search rules in
    ok_same c.unknown_name.result (chosen_by inside state aside) _ _
    (ap unknown name ∙ ap (of_arm setting earlier enum names inside (meta_name item) item) found
    ∙ of_first setting earlier enum names inside (meta_name item) item c.args.arms.now)
    (c.unknown_name.ensures inside state aside)
