use Rattle.std.proofs.Common.{◌≡◌, ◌<◌, IfOk, subst, arith}
use Rattle.machine_places.specs.declared.row.OuterRow.{OuterRow}
use Rattle.machine_places.proofs.Levels.{row_above-is}
use Rattle.machine_places.proofs.resolve.+outer_row_at.Goals as goal

pub outer_row_at-returns : goal.outer_row_at-returns
outer_row_at-returns g t c =
    let lt : 0 < c.args.level = omega (arith, c.if-level-eq0.false) in
    let P : OuterRow → Type 0 = λ it. IfOk c.row_above.result (λ row. row ≡ it) in
    subst P (row_above-is (g.N.Names.idents c.args.decls.now) c.args.level c.args.ty.now lt) c.row_above.ensures
