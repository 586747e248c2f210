use Rattle.std.proofs.Common.{◌<◌, ◌-◌, ◌∙◌, ap, arith, is_some, sym}
use Rattle.machine_host.specs.Decls.{decl_names}
use Rattle.machine_rows.specs.Rows.{row_at}
use Rattle.machine_std.specs.Rests.{head_default}
use Rattle.machine_std.specs.DefaultRows.{default, default-Host}
use Rattle.machine_std.proofs.Rows.{default-above}
use Rattle.machine_std.proofs.has_default.+rest_of.Goals as goal

pub rest_of-returns-then-level-eq0 : goal.rest_of-returns-then-level-eq0
rest_of-returns-then-level-eq0 t c = λ declared.
    ap (λ level. is_some (default declared (row_at (decl_names c.args.decls.now) level c.args.ty.now))) c.if-level-eq0.true ∙ ap is_some (default-Host declared c.args.ty.now)

pub rest_of-returns : goal.rest_of-returns
rest_of-returns t c = λ declared.
    let above : 0 < c.args.level = omega (arith, c.if-level-eq0.false) in
    ap is_some (default-above declared (decl_names c.args.decls.now) c.args.level c.args.ty.now above)
    ∙ ap (λ it. is_some (head_default declared (λ inner. default declared (row_at (decl_names c.args.decls.now) (c.args.level - 1) inner)) c.args.ty.now it)) (sym c.head_of.ensures)
    ∙ c.rest_of_head.ensures declared c.args.ty.now
