use Rattle.std.proofs.Common.{◌≡◌, ◌∙◌, List, refl, ap, sym, rules}
use Rattle.std.specs.Prelude.{codes}
use Rattle.base_core.specs.declared.text.Text.{Text}
use Rattle.tok_types.specs.Ident.{ident_text}
use Rattle.node_expr.specs.declared.path.Path.{Path}
use Rattle.node_core.specs.declared.attr.Meta.{Meta}
use Rattle.node_core.specs.declared.attr.Meta.TheVariants as meta
use Rattle.codegen_program.specs.declared.variant.VariantForm.TheVariants as form
use Rattle.machine_read.specs.Progress.{Built}
use Rattle.machine_read.specs.Reads.{Earlier, metas}
use Rattle.machine_read.specs.Scopes.{setting_in}
use Rattle.machine_read.specs.Setting.{Setting}
use Rattle.machine_state.specs.Chosen.{Inside, chosen_by}
use Rattle.machine_state.specs.Seen.{receiver_of}
use Rattle.machine_steps.specs.Variants as spec
use Rattle.machine_state.proofs.Steps.{ok_same}
use Rattle.machine_run.proofs.run.Run.by_form.Goals as goal

module _ (setting : Setting) (earlier : Earlier) (enum : Text) (inside : Inside) (names : List Text) (name variant : Text) where
  -- what is no word is no variant without members
  no_word : (it : Meta) → ((word : Path) → it ≡ meta.Path word → ⊥) → Built (spec.format (codes "non-path")) ≡ spec.by_form setting earlier enum inside names name variant form.«Unit» it
  no_word (meta.Path word) other = absurd (other word refl)
  no_word (meta.«List» list) other = refl
  no_word (meta.NameValue pair) other = refl

pub returns-in_default : goal.returns-in_default
returns-in_default g c names inside state aside =
    let setting = setting_in g.H.Host.says c.args.self.now.scope.setting in
    let earlier = metas (g.D.Declared.earlier c.args.self.now.scope.declared.now) in
    let enum = (receiver_of c.args.self.now.receiver).name in
    let arm = c.args.arm.now in
    let variant = ident_text arm.ident in
    let item = c.args.item.now in
    ok_same c.refused_format.result (chosen_by inside state aside) _ _
    (no_word setting earlier enum inside names arm.name variant item c.in_default.not-Path
    ∙ sym (ap (λ it. spec.by_form setting earlier enum inside names arm.name variant it item) c.in-Unit.is))
    (c.refused_format.ensures inside state aside)

pub returns-in_ok-of-in-Transparent : goal.returns-in_ok-of-in-Transparent
returns-in_ok-of-in-Transparent g c names inside state aside =
    let run = c.args.self.now in
    let arm = c.args.arm.now in
    let earlier = metas (g.D.Declared.earlier run.scope.declared.now) in
    let read = spec.by_form (setting_in g.H.Host.says run.scope.setting) earlier (receiver_of run.receiver).name inside names arm.name (ident_text arm.ident) in
    c.in_ok-of-in-Transparent.ensures _ c.transparent-answer.ensures state aside ∙ sym (ap (λ it. read it c.args.item.now) c.in-Transparent.is)

pub returns-in-Path-item : goal.returns-in-Path-item
returns-in-Path-item g c names inside state aside =
    let run = c.args.self.now in
    let arm = c.args.arm.now in
    let earlier = metas (g.D.Declared.earlier run.scope.declared.now) in
    let read = spec.by_form (setting_in g.H.Host.says run.scope.setting) earlier (receiver_of run.receiver).name inside names arm.name (ident_text arm.ident) in
    let is : Built (spec.format (codes "non-list")) ≡ read arm.form c.args.item.now = search rules in
    ok_same c.refused_format-in-Path-item.result (chosen_by inside state aside) _ _ is (c.refused_format-in-Path-item.ensures inside state aside)
