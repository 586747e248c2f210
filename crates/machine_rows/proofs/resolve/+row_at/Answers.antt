use Rattle.std.proofs.Common.{◌≡◌, ◌<◌, IfOk, subst, arith}
use Rattle.machine_rows.specs.declared.row.Row.{Row}
use Rattle.machine_rows.proofs.Levels.{row_above-is}
use Rattle.machine_rows.proofs.resolve.+row_at.Goals as goal

pub row_at-returns : goal.row_at-returns
row_at-returns g t c =
    let lt : 0 < c.args.level = omega (arith, c.if-level-eq0.false) in
    let P : Row → Type 0 = λ it. IfOk c.row_above.result (λ row. row ≡ it) in
    subst P (row_above-is (g.N.Names.idents c.args.decls.now) c.args.level c.args.ty.now lt) c.row_above.ensures
