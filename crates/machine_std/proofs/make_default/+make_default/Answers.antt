use Rattle.std.proofs.Common.{◌≡◌, ◌<◌, ◌-◌, ◌+◌, ◌∙◌, drop, IfOk, Option, subst, ap, sym, arith, option_map}
use Rattle.tok_types.specs.Ident.{ident_text}
use Rattle.machine_value.specs.declared.value.Value.{Value}
use Rattle.machine_value.specs.declared.value.Value.TheVariants as value
use Rattle.node_core.specs.declared.style.Style.TheVariants as style
use Rattle.machine_host.specs.Decls.{decl_names}
use Rattle.machine_rows.specs.Rows.{row_at, row_of}
use Rattle.machine_std.specs.Defaults.{decl_default, default_below, type_default}
use Rattle.machine_std.specs.Rests.{head_default}
use Rattle.machine_std.proofs.Belows.{among-is, below-among, below-none}
use Rattle.machine_std.proofs.Members.{followed_by, followed_by-end, followed_by-more, followed_by-none, members_of}
use Rattle.machine_std.specs.DefaultRows.{default, default-Host}
use Rattle.machine_std.proofs.Rows.{default-above}
use Rattle.machine_std.proofs.make_default.+make_default.Goals as goal

pub declaration_default-returns-in-Some : goal.declaration_default-returns-in-Some
declaration_default-returns-in-Some t c =
    let here = type_default c.args.decls.now (default_below c.args.decls.now c.args.number) in
    subst (λ (it : Option Value). IfOk c.decl_made.result (λ made. made ≡ it)) (ap (decl_default here) c.in-Some.ensures ∙ sym (among-is c.args.decls.now c.args.number)) c.decl_made.ensures

pub declaration_default-returns-in-None : goal.declaration_default-returns-in-None
declaration_default-returns-in-None t c =
    let here = type_default c.args.decls.now (default_below c.args.decls.now c.args.number) in
    ap (decl_default here) c.in-None.ensures ∙ sym (among-is c.args.decls.now c.args.number)

pub number_default-returns-then-number-below : goal.number_default-returns-then-number-below
number_default-returns-then-number-below t c = sym (below-none c.args.decls.now c.args.below c.args.number c.if-number-below.true)

pub number_default-returns : goal.number_default-returns
number_default-returns t c =
    subst (λ (it : Option Value). IfOk c.declaration_default.result (λ made. made ≡ it)) (sym (below-among c.args.decls.now c.args.below c.args.number c.if-number-below.false)) c.declaration_default.ensures

pub struct_default-returns-in-None : goal.struct_default-returns-in-None
unfolding row_of
struct_default-returns-in-None t c =
    let here = type_default c.args.decls.now (default_below c.args.decls.now c.args.below) in
    sym (ap (option_map (value.Struct (ident_text c.args.ident.now) style.Struct))
    (c.loop-field.invariant ∙ followed_by-none here c.loop-field.members c.args.fields.now c.loop-field.field-index c.field-item.result c.loop-field-test.true c.field-item.is (sym c.in-None.is ∙ c.in_ok-value.ensures)))

pub struct_default-returns : goal.struct_default-returns
struct_default-returns t c =
    let here = type_default c.args.decls.now (default_below c.args.decls.now c.args.below) in
    let whole = ap (option_map (value.Struct (ident_text c.args.ident.now) style.Struct)) (c.loop-field.invariant ∙ followed_by-end here c.loop-field.members c.args.fields.now c.loop-field.field-index c.loop-field-test.false) in
    subst (λ (it : Option Value). IfOk c.struct_of.result (λ made. made ≡ it)) (sym whole) c.struct_of.ensures

pub struct_default-loop-field-preserved : goal.struct_default-loop-field-preserved
unfolding row_of
struct_default-loop-field-preserved t c =
    let here = type_default c.args.decls.now (default_below c.args.decls.now c.args.below) in
    c.loop-field.invariant
    ∙ followed_by-more here c.loop-field.members c.args.fields.now c.loop-field.field-index c.field-item.result c.loop-field-test.true c.field-item.is c.in-Some.value (sym c.in-Some.is ∙ c.in_ok-value.ensures)
    ∙ ap (λ members. followed_by members (members_of here (drop (c.loop-field.field-index + 1) c.args.fields.now))) (sym c.in_ok-push_member-in-Some.ensures)

pub type_default-returns-then-level-eq0 : goal.type_default-returns-then-level-eq0
type_default-returns-then-level-eq0 t c =
    let declared = default_below c.args.decls.now c.args.below in
    sym (ap (λ level. default declared (row_at (decl_names c.args.decls.now) level c.args.ty.now)) c.if-level-eq0.true ∙ default-Host declared c.args.ty.now)

pub type_default-returns : goal.type_default-returns
type_default-returns t c =
    let declared = default_below c.args.decls.now c.args.below in
    let above : 0 < c.args.level = omega (arith, c.if-level-eq0.false) in
    let here : head_default declared (λ inner. default declared (row_at (decl_names c.args.decls.now) (c.args.level - 1) inner)) c.args.ty.now _ ≡ default declared (row_at (decl_names c.args.decls.now) c.args.level c.args.ty.now)
    = ap (head_default declared (λ inner. default declared (row_at (decl_names c.args.decls.now) (c.args.level - 1) inner)) c.args.ty.now) c.head_of.ensures
    ∙ sym (default-above declared (decl_names c.args.decls.now) c.args.level c.args.ty.now above) in
    subst (λ (it : Option Value). IfOk c.head_made.result (λ made. made ≡ it)) here (c.head_made.ensures c.args.ty.now)
