use Rattle.std.proofs.Common.{List, [], ◌∷◌, ◌++◌, subst, sym}
use Rattle.std.proofs.lemmas.Result.{err_from_is_err_and}
use Rattle.codegen_program.specs.declared.program.«Unit».{«Unit» as Unit'}
use Rattle.run_accepted.specs.Pairs.{pair}
use Rattle.run_accepted.specs.Steps.{AreUnits}
use Rattle.run_accepted.proofs.PairLemmas.{one_fails, one_more}
use Rattle.run_accepted.proofs.program.push_unit.Goals as goal

pub returns-in_err-unit : goal.returns-in_err-unit
returns-in_err-unit c before are =
    let p = err_from_is_err_and c.from_residual.result c.from_residual.ensures.1 in
    rw (p.1, p.2)
    (one_fails c.args.table.now before c.args.units.now c.args.number c.args.decl.now c.args.derive c.in_err-unit.field-0.0 c.in_err-unit.ensures are)

pub returns-in_err-push : goal.returns-in_err-push
returns-in_err-push c before are =
    let p = err_from_is_err_and c.from_residual-in_err-push.result c.from_residual-in_err-push.ensures.1 in
    rw (p.1, p.2) tt

pub returns : goal.returns
returns c before are =
    let P : List Unit' → Type 0 = λ units. AreUnits c.args.table.now (before ++ pair c.args.number c.args.decl.now c.args.derive ∷ []) units in
    subst P (sym c.in_ok-push.ensures.ok)
    (one_more c.args.table.now before c.args.units.now c.args.number c.args.decl.now c.args.derive c.in_ok-unit.unit c.in_ok-unit.ensures.0 c.in_ok-unit.ensures.1 are)
