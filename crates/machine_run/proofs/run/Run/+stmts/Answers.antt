use Rattle.std.proofs.Common.{◌≡◌, false, List, [], None, Option, Result, Ok, ap, fold, rules, sym, ◌∙◌}
use Rattle.std.specs.declared.alloc.AllocError.{AllocError}
use Rattle.base_core.specs.declared.text.Text.{Text}
use Rattle.node_core.specs.declared.attr.Attribute.{Attribute}
use Rattle.codegen_program.specs.declared.stmt.Stmt.{Stmt}
use Rattle.machine_read.proofs.Statements as steps
use Rattle.machine_read.specs.NestedMeta.{NestedMeta}
use Rattle.machine_read.specs.Asked.{asked_of, attributes_asked, element_asked, items_asked}
use Rattle.machine_read.specs.Attributes.{on_attribute}
use Rattle.machine_read.specs.Building.{build_step}
use Rattle.machine_steps.specs.Parts.{body_step}
use Rattle.machine_read.specs.Progress.{Aside, Progress, going, unless_faults}
use Rattle.machine_read.specs.Reads.{metas}
use Rattle.machine_read.specs.Scopes.{setting_in}
use Rattle.machine_read.specs.Slots.{read_flat}
use Rattle.machine_read.specs.State.{One, Several, State, step}
use Rattle.machine_read.specs.Statements as spec
use Rattle.machine_run.specs.Runs.{done_by, from_start, of_enum, on_list}
use Rattle.machine_state.specs.Seen.{progress_of, receiver_of, state_of}
use Rattle.machine_run.specs.Steps.{Proceeds, change_at, reached}
use Rattle.machine_outer.specs.Seen.{aside_of}
use Rattle.machine_state.specs.Steps.{Goes, Moves}
use Rattle.machine_state.specs.declared.progress.Progress.{Progress as Come}
use Rattle.machine_state.specs.declared.progress.Progress.TheVariants as come
use Rattle.machine_steps.specs.Variants.{variants}
use Rattle.machine_state.proofs.Choices.{over_is, runs_is}
use Rattle.machine_run.proofs.Forms as forms
use Rattle.machine_run.proofs.Kept as kept
use Rattle.machine_run.proofs.Metas.{itemed, unlisted}
use Rattle.machine_run.proofs.Steps.{acted, moved}
use Rattle.machine_state.proofs.Steps.{ok_same}
use Rattle.machine_state.proofs.Stopped.{goes_on}
use Rattle.machine_run.proofs.run.Run.+stmts.Goals as goal

pub act-returns-in-DeclareErrors : goal.act-returns-in-DeclareErrors
act-returns-in-DeclareErrors g t c =
    let setting = setting_in g.H.Host.says c.args.self.now.scope.setting in
    let before = g.D.Declared.earlier c.args.self.now.scope.declared.now in
    let result : Result Come AllocError = Ok c.declare_errors.result in
    let act = moved g.H.Host.says g.D.Declared.earlier c.args.self.now (asked_of c.args.asked) c.args.standing.now c.args.progress c.args.stmt.now in
    act _ _ c.declare_errors.new.state result c.in-DeclareErrors.is
    (steps.declare_errors setting before (receiver_of c.args.self.now.receiver)) c.declare_errors.ensures

pub act-returns-in-DeclareOne : goal.act-returns-in-DeclareOne
act-returns-in-DeclareOne g t c =
    let setting = setting_in g.H.Host.says c.args.self.now.scope.setting in
    let before = g.D.Declared.earlier c.args.self.now.scope.declared.now in
    let act = moved g.H.Host.says g.D.Declared.earlier c.args.self.now (asked_of c.args.asked) c.args.standing.now c.args.progress c.args.stmt.now in
    let next = spec.with_slot c.in-DeclareOne.slot (One c.in-DeclareOne.ty false None) in
    let known : Moves next c.args.standing.now.state c.args.progress c.declare.new.state c.declare.result = search rules in
    act _ _ c.declare.new.state c.declare.result c.in-DeclareOne.is
    (steps.declare_one setting before (receiver_of c.args.self.now.receiver) _ _ _) known

pub act-returns-in-DeclareMany : goal.act-returns-in-DeclareMany
act-returns-in-DeclareMany g t c =
    let setting = setting_in g.H.Host.says c.args.self.now.scope.setting in
    let before = g.D.Declared.earlier c.args.self.now.scope.declared.now in
    let call = c.declare-in-DeclareMany in
    let next = spec.with_slot c.in-DeclareMany.slot (Several c.in-DeclareMany.ty []) in
    let known : Moves next c.args.standing.now.state c.args.progress call.new.state call.result = search rules in
    let act = moved g.H.Host.says g.D.Declared.earlier c.args.self.now (asked_of c.args.asked) c.args.standing.now c.args.progress c.args.stmt.now in
    act _ _ call.new.state call.result c.in-DeclareMany.is
    (steps.declare_many setting before (receiver_of c.args.self.now.receiver) _ _ _) known

pub act-returns-in-DeclareBuffer : goal.act-returns-in-DeclareBuffer
act-returns-in-DeclareBuffer g t c =
    let setting = setting_in g.H.Host.says c.args.self.now.scope.setting in
    let before = g.D.Declared.earlier c.args.self.now.scope.declared.now in
    let result : Result Come AllocError = Ok c.declare_buffer.result in
    let act = moved g.H.Host.says g.D.Declared.earlier c.args.self.now (asked_of c.args.asked) c.args.standing.now c.args.progress c.args.stmt.now in
    act _ _ c.declare_buffer.new.state result c.in-DeclareBuffer.is
    (steps.declare_buffer setting before (receiver_of c.args.self.now.receiver)) c.declare_buffer.ensures

pub act-returns-in-ForAttributes : goal.act-returns-in-ForAttributes
act-returns-in-ForAttributes g t c =
    let setting = setting_in g.H.Host.says c.args.self.now.scope.setting in
    let before = g.D.Declared.earlier c.args.self.now.scope.declared.now in
    let progress = reached c.args.standing.now c.args.progress in
    let names = c.in-ForAttributes.names in
    let stmts = c.in-ForAttributes.items in
    let read : List Text → List Stmt → List Attribute → Progress =
    λ names stmts attributes.
    fold (on_attribute (on_list g.H.Host.says g.D.Declared.earlier c.args.self.now stmts) names c.in-ForAttributes.forward) progress attributes in
    let items = c.as_slice-in-ForAttributes.result.now in
    let all : read c.as_slice.result.now items c.attributes.result.now ≡ read names stmts (attributes_asked (asked_of c.args.asked)) =
    ap (λ names. read names items c.attributes.result.now) c.as_slice.ensures
    ∙ ap (λ stmts. read names stmts c.attributes.result.now) c.as_slice-in-ForAttributes.ensures
    ∙ ap (read names stmts) c.attributes.ensures in
    let act = acted g.H.Host.says g.D.Declared.earlier c.args.self.now (asked_of c.args.asked) c.args.standing.now c.args.progress c.args.stmt.now in
    act _ _ c.for_attributes.new.standing c.for_attributes.result c.in-ForAttributes.is
    (steps.for_attributes setting before (receiver_of c.args.self.now.receiver) _ _ _)
    (ok_same c.for_attributes.result (reached c.for_attributes.new.standing) _ _ all c.for_attributes.ensures)

pub act-returns-in-ForItems : goal.act-returns-in-ForItems
act-returns-in-ForItems g t c =
    let setting = setting_in g.H.Host.says c.args.self.now.scope.setting in
    let before = g.D.Declared.earlier c.args.self.now.scope.declared.now in
    let taken : Aside → List NestedMeta → Progress =
    λ aside items. spec.moving (λ state. fold (step setting (metas before) c.in-ForItems.arms c.in-ForItems.rest) state items) (progress_of (state_of c.args.standing.now.state) aside c.args.progress) in
    let act = moved g.H.Host.says g.D.Declared.earlier c.args.self.now (asked_of c.args.asked) c.args.standing.now c.args.progress c.args.stmt.now in
    act _ _ c.for_items.new.state c.for_items.result c.in-ForItems.is
    (steps.for_items setting before (receiver_of c.args.self.now.receiver) _ _)
    (λ aside. ok_same c.for_items.result (progress_of (state_of c.for_items.new.state) aside) _ _ (ap (taken aside) c.items.ensures) (c.for_items.ensures aside))

pub act-returns-in-ReadFlatten : goal.act-returns-in-ReadFlatten
act-returns-in-ReadFlatten g t c =
    let setting = setting_in g.H.Host.says c.args.self.now.scope.setting in
    let before = g.D.Declared.earlier c.args.self.now.scope.declared.now in
    let next : State → State =
    λ it. change_at c.in-ReadFlatten.slot (read_flat setting (metas before) c.in-ReadFlatten.names it.kept) it in
    let known : Moves next c.args.standing.now.state c.args.progress c.read_flatten.new.state c.read_flatten.result = search rules in
    let act = moved g.H.Host.says g.D.Declared.earlier c.args.self.now (asked_of c.args.asked) c.args.standing.now c.args.progress c.args.stmt.now in
    act _ _ c.read_flatten.new.state c.read_flatten.result c.in-ReadFlatten.is
    (steps.read_flatten setting before (receiver_of c.args.self.now.receiver) _ _) known

pub act-returns-in-CheckMissing : goal.act-returns-in-CheckMissing
act-returns-in-CheckMissing g t c =
    let setting = setting_in g.H.Host.says c.args.self.now.scope.setting in
    let before = g.D.Declared.earlier c.args.self.now.scope.declared.now in
    let act = moved g.H.Host.says g.D.Declared.earlier c.args.self.now (asked_of c.args.asked) c.args.standing.now c.args.progress c.args.stmt.now in
    act _ _ c.check_missing.new.state c.check_missing.result c.in-CheckMissing.is
    (steps.check_missing setting before (receiver_of c.args.self.now.receiver) _ _ _) c.check_missing.ensures

pub act-returns-in-CheckErrors : goal.act-returns-in-CheckErrors
act-returns-in-CheckErrors g t c =
    let setting = setting_in g.H.Host.says c.args.self.now.scope.setting in
    let before = g.D.Declared.earlier c.args.self.now.scope.declared.now in
    let old = state_of c.args.standing.now.state in
    let located : Option Text → Progress → Progress =
    λ location. going (λ state aside. unless_faults (spec.placed location state.faults) state aside) in
    let known : Goes (located c.in-CheckErrors.location) c.args.standing.now.state c.args.progress c.check_errors.new.state c.check_errors.result = λ aside.
    ok_same c.check_errors.result (progress_of (state_of c.check_errors.new.state) aside) _ _
    (ap (λ location. located location (progress_of old aside c.args.progress)) c.as_ref.ensures.value) (c.check_errors.ensures aside) in
    let act = moved g.H.Host.says g.D.Declared.earlier c.args.self.now (asked_of c.args.asked) c.args.standing.now c.args.progress c.args.stmt.now in
    act _ _ c.check_errors.new.state c.check_errors.result c.in-CheckErrors.is
    (steps.check_errors setting before (receiver_of c.args.self.now.receiver) _) known

pub act-returns-in-SetDefault : goal.act-returns-in-SetDefault
act-returns-in-SetDefault g t c =
    let setting = setting_in g.H.Host.says c.args.self.now.scope.setting in
    let before = g.D.Declared.earlier c.args.self.now.scope.declared.now in
    let act = moved g.H.Host.says g.D.Declared.earlier c.args.self.now (asked_of c.args.asked) c.args.standing.now c.args.progress c.args.stmt.now in
    act _ _ c.set_default.new.state c.set_default.result c.in-SetDefault.is
    (steps.set_default setting before (receiver_of c.args.self.now.receiver) _) c.set_default.ensures

pub act-returns-in-Build : goal.act-returns-in-Build
act-returns-in-Build g t c =
    let setting = setting_in g.H.Host.says c.args.self.now.scope.setting in
    let before = g.D.Declared.earlier c.args.self.now.scope.declared.now in
    let built = build_step setting (receiver_of c.args.self.now.receiver) (asked_of c.args.asked) c.in-Build.name c.in-Build.variant c.in-Build.forwarded c.in-Build.inits in
    let known : Proceeds built c.args.standing.now c.args.progress c.args.standing.now c.build_form.result = search rules in
    let act = acted g.H.Host.says g.D.Declared.earlier c.args.self.now (asked_of c.args.asked) c.args.standing.now c.args.progress c.args.stmt.now in
    act _ _ c.args.standing.now c.build_form.result c.in-Build.is
    (steps.build setting before (receiver_of c.args.self.now.receiver) _ _ _ _) known

pub act-returns-in-Transform : goal.act-returns-in-Transform
act-returns-in-Transform g t c =
    let setting = setting_in g.H.Host.says c.args.self.now.scope.setting in
    let before = g.D.Declared.earlier c.args.self.now.scope.declared.now in
    let act = acted g.H.Host.says g.D.Declared.earlier c.args.self.now (asked_of c.args.asked) c.args.standing.now c.args.progress c.args.stmt.now in
    let state = state_of c.args.standing.now.state in
    let aside = aside_of c.args.standing.now.aside in
    act _ _ c.args.standing.now c.transform.result c.in-Transform.is
    (steps.transform setting before (receiver_of c.args.self.now.receiver) _) (c.transform.ensures state aside state aside)

pub act-returns-in-CheckShape : goal.act-returns-in-CheckShape
act-returns-in-CheckShape g t c =
    let setting = setting_in g.H.Host.says c.args.self.now.scope.setting in
    let before = g.D.Declared.earlier c.args.self.now.scope.declared.now in
    let act = acted g.H.Host.says g.D.Declared.earlier c.args.self.now (asked_of c.args.asked) c.args.standing.now c.args.progress c.args.stmt.now in
    act _ _ c.args.standing.now c.check_shape.result c.in-CheckShape.is
    (steps.check_shape setting before (receiver_of c.args.self.now.receiver) _) (c.check_shape.ensures (element_asked (asked_of c.args.asked)) (state_of c.args.standing.now.state) (aside_of c.args.standing.now.aside))

pub act-returns-in-ReadBody : goal.act-returns-in-ReadBody
act-returns-in-ReadBody g t c =
    let setting = setting_in g.H.Host.says c.args.self.now.scope.setting in
    let before = g.D.Declared.earlier c.args.self.now.scope.declared.now in
    let receiver = receiver_of c.args.self.now.receiver in
    let body = body_step setting before receiver (element_asked (asked_of c.args.asked)) c.in-ReadBody.ident c.in-ReadBody.with in
    let known : Proceeds body c.args.standing.now c.args.progress c.args.standing.now c.read_body.result = search rules in
    let act = acted g.H.Host.says g.D.Declared.earlier c.args.self.now (asked_of c.args.asked) c.args.standing.now c.args.progress c.args.stmt.now in
    act _ _ c.args.standing.now c.read_body.result c.in-ReadBody.is
    (steps.read_body setting before (receiver_of c.args.self.now.receiver) _ _) known

pub act-returns-in-Delegate : goal.act-returns-in-Delegate
act-returns-in-Delegate g t c =
    let setting = setting_in g.H.Host.says c.args.self.now.scope.setting in
    let before = g.D.Declared.earlier c.args.self.now.scope.declared.now in
    let act = acted g.H.Host.says g.D.Declared.earlier c.args.self.now (asked_of c.args.asked) c.args.standing.now c.args.progress c.args.stmt.now in
    let state = state_of c.args.standing.now.state in
    let aside = aside_of c.args.standing.now.aside in
    act _ _ c.args.standing.now c.delegate.result c.in-Delegate.is
    (steps.delegate setting before (receiver_of c.args.self.now.receiver) _ _ _) (c.delegate.ensures state state aside)

pub act-returns-in-Variants : goal.act-returns-in-Variants
act-returns-in-Variants g t c =
    let setting = setting_in g.H.Host.says c.args.self.now.scope.setting in
    let before = g.D.Declared.earlier c.args.self.now.scope.declared.now in
    let receiver = receiver_of c.args.self.now.receiver in
    let progress = reached c.args.standing.now c.args.progress in
    let read : List NestedMeta → Progress = λ items.
    going (λ state aside. variants setting (metas before) receiver.name (forms.run_inside setting before receiver) c.in-Variants.names c.in-Variants.arms items) progress in
    let all : read c.items-items.result.now ≡ read (items_asked (asked_of c.args.asked)) = ap read c.items-items.ensures in
    let act = acted g.H.Host.says g.D.Declared.earlier c.args.self.now (asked_of c.args.asked) c.args.standing.now c.args.progress c.args.stmt.now in
    act _ _ c.variants.new.standing c.variants.result c.in-Variants.is (forms.variants setting before receiver _ _)
    (ok_same c.variants.result (reached c.variants.new.standing) _ _ all c.variants.ensures)

pub act-returns-in-UnitNames : goal.act-returns-in-UnitNames
act-returns-in-UnitNames g t c =
    let setting = setting_in g.H.Host.says c.args.self.now.scope.setting in
    let before = g.D.Declared.earlier c.args.self.now.scope.declared.now in
    let receiver = receiver_of c.args.self.now.receiver in
    let state = state_of c.args.standing.now.state in
    let aside = aside_of c.args.standing.now.aside in
    let act = acted g.H.Host.says g.D.Declared.earlier c.args.self.now (asked_of c.args.asked) c.args.standing.now c.args.progress c.args.stmt.now in
    act _ _ c.args.standing.now c.unit_names.result c.in-UnitNames.is (steps.unit_names setting before receiver _ _) (c.unit_names.ensures state state aside)

pub act-returns-in-Call : goal.act-returns-in-Call
act-returns-in-Call g t c =
    let setting = setting_in g.H.Host.says c.args.self.now.scope.setting in
    let before = g.D.Declared.earlier c.args.self.now.scope.declared.now in
    let act = acted g.H.Host.says g.D.Declared.earlier c.args.self.now (asked_of c.args.asked) c.args.standing.now c.args.progress c.args.stmt.now in
    let state = state_of c.args.standing.now.state in
    let aside = aside_of c.args.standing.now.aside in
    act _ _ c.args.standing.now c.call.result c.in-Call.is
    (steps.call setting before (receiver_of c.args.self.now.receiver) _ _) (c.call.ensures state state aside)

pub act-returns-in-DeclareForward : goal.act-returns-in-DeclareForward
act-returns-in-DeclareForward g t c =
    let setting = setting_in g.H.Host.says c.args.self.now.scope.setting in
    let before = g.D.Declared.earlier c.args.self.now.scope.declared.now in
    let result : Result Come AllocError = Ok c.declare_forward.result in
    let act = acted g.H.Host.says g.D.Declared.earlier c.args.self.now (asked_of c.args.asked) c.args.standing.now c.args.progress c.args.stmt.now in
    act _ _ (record c.args.standing.now { aside = c.declare_forward.new.aside }) result c.in-DeclareForward.is
    (kept.declare_forward setting before (receiver_of c.args.self.now.receiver) _) (c.declare_forward.ensures (state_of c.args.standing.now.state))

pub act-returns-in-ForwardDone : goal.act-returns-in-ForwardDone
act-returns-in-ForwardDone g t c =
    let setting = setting_in g.H.Host.says c.args.self.now.scope.setting in
    let before = g.D.Declared.earlier c.args.self.now.scope.declared.now in
    let done = going (done_by g.H.Host.says c.args.self.now c.in-ForwardDone.ident c.in-ForwardDone.with) in
    let known : Proceeds done c.args.standing.now c.args.progress c.forward_done.new.standing c.forward_done.result = search rules in
    let act = acted g.H.Host.says g.D.Declared.earlier c.args.self.now (asked_of c.args.asked) c.args.standing.now c.args.progress c.args.stmt.now in
    act _ _ c.forward_done.new.standing c.forward_done.result c.in-ForwardDone.is
    (kept.forward_done setting before (receiver_of c.args.self.now.receiver) _ _) known

pub on_meta-returns-in_default : goal.on_meta-returns-in_default
on_meta-returns-in_default g t c =
    let before = reached c.args.standing.now c.args.progress in
    let read = on_list g.H.Host.says g.D.Declared.earlier c.args.self.now c.args.stmts.now in
    itemed read before c.on_items.new.standing c.args.meta.now c.on_items.result c.in_default.not-Path c.on_items.ensures

pub on_items-returns-in-Err : goal.on_items-returns-in-Err
on_items-returns-in-Err g t c =
    let old = c.args.standing.now in
    let read = on_list g.H.Host.says g.D.Declared.earlier c.args.self.now c.args.stmts.now in
    unlisted read (reached old c.args.progress) (record old { state = c.refuse_list.new.state }) c.args.meta.now c.refuse_list.result
    c.in-Err.fail c.attribute_items.result c.in-Err.is c.attribute_items.ensures
    (λ read outcome is. c.refuse_list.ensures read outcome is (aside_of old.aside))

pub variants-returns-in-Ok : goal.variants-returns-in-Ok
variants-returns-in-Ok g t c =
    let run = c.args.self.now in
    let old = state_of c.args.standing.now.state in
    let aside = aside_of c.args.standing.now.aside in
    let inside = from_start g.H.Host.says g.D.Declared.earlier run in
    let read = of_enum g.H.Host.says g.D.Declared.earlier run
    (λ setting earlier enum. variants setting earlier enum inside c.args.names.now c.args.arms.now c.args.items.now) in
    over_is inside old aside c.in_ok-chosen-in-None.field-0 c.into_parts.result read c.into_parts.ensures
    (c.in_ok-chosen-in-None.ensures inside old aside) c.in-Ok.over c.in-Ok.is
    ∙ sym (goes_on c.args.progress old aside (λ old aside. read) c.in-None.ensures)

pub variants-returns-in-Err : goal.variants-returns-in-Err
variants-returns-in-Err g t c =
    let run = c.args.self.now in
    let old = state_of c.args.standing.now.state in
    let aside = aside_of c.args.standing.now.aside in
    let inside = from_start g.H.Host.says g.D.Declared.earlier run in
    let read = of_enum g.H.Host.says g.D.Declared.earlier run
    (λ setting earlier enum. variants setting earlier enum inside c.args.names.now c.args.arms.now c.args.items.now) in
    let begun : List NestedMeta → Progress → Progress = λ items progress.
    on_list g.H.Host.says g.D.Declared.earlier run c.in-Err.stmts.now items progress in
    let start = reached c.restart.new.self come.Going in
    let runs : inside c.in-Err.stmts.now c.in-Err.items ≡ read =
    runs_is inside old aside c.in_ok-chosen-in-None.field-0 c.into_parts.result read c.into_parts.ensures
    (c.in_ok-chosen-in-None.ensures inside old aside) c.in-Err.stmts c.in-Err.items c.in-Err.is in
    let all : begun c.as_slice.result.now start ≡ going (λ old aside. read) (reached c.args.standing.now c.args.progress) =
    ap (λ items. begun items start) c.as_slice.ensures ∙ ap (begun c.in-Err.items) c.restart.ensures ∙ runs
    ∙ sym (goes_on c.args.progress old aside (λ old aside. read) c.in-None.ensures) in
    ok_same c.inside.result (reached c.inside.new.standing) _ _ all c.inside.ensures
