use Rattle.std.proofs.Common.{◌≡◌, [], Option, ap, arith}
use Rattle.std.proofs.lemmas.List.{nil_from_length}
use Rattle.std.specs.Option.{option_copied}
use Rattle.tok_types.specs.declared.ident.Ident.{Ident}
use Rattle.machine_read.specs.Asked.{asked_of}
use Rattle.machine_read.specs.Progress.{Aside, Progress, going}
use Rattle.machine_read.specs.Scopes.{setting_in}
use Rattle.machine_read.specs.State.{State}
use Rattle.machine_state.specs.Seen.{progress_of, receiver_of, state_of}
use Rattle.machine_run.specs.Building.{form_built}
use Rattle.machine_state.specs.Steps.{Goes}
use Rattle.machine_state.proofs.Steps.{ok_same}
use Rattle.machine_run.proofs.Building.{form_is}
use Rattle.machine_run.proofs.run.Run.build_form.Goals as goal

pub returns-in-empty : goal.returns-in-empty
returns-in-empty g c =
    let run = c.args.self.now in
    let bare : c.args.parts.now ≡ [] = nil_from_length c.args.parts.now (omega (arith, c.in-empty.len_below)) in
    let setting = setting_in g.H.Host.says run.scope.setting in
    let formed : Option Ident → State → Progress =
    λ variant it. form_built setting c.built_style-style.result c.args.name.now variant c.args.inits.now it in
    let state = c.args.standing.now.state in
    let stepped : Option Ident → Aside → Progress = λ variant aside.
    going (λ it aside. formed variant it) (progress_of (state_of state) aside c.args.progress) in
    let known : Goes (going (λ it aside. formed c.args.variant.now it)) state c.args.progress state c.build.result = λ aside.
    ok_same c.build.result (progress_of (state_of state) aside) (stepped (option_copied c.as_ref-variant.result) aside) (stepped c.args.variant.now aside)
    (ap (λ variant. stepped variant aside) c.as_ref-variant.ensures.value) (c.build.ensures aside) in
    form_is setting (receiver_of run.receiver) (asked_of c.args.asked) c.built_style-style.result c.built_style-style.ensures
    c.args.name.now c.args.variant.now c.args.inits.now c.args.parts.now c.build.result c.args.standing.now c.args.progress bare known
