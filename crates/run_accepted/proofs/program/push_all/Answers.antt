use Rattle.std.proofs.Common.{◌<◌, ◌+◌, ◌++◌, length, drop, arith}
use Rattle.std.proofs.lemmas.Result.{err_from_is_err_and}
use Rattle.run_accepted.specs.Pairs.{pairs_from, pairs_of}
use Rattle.run_accepted.proofs.PairLemmas.{pairs_next, stops}
use Rattle.run_accepted.proofs.program.push_all.Goals as goal

pub returns-in_err-push_units : goal.returns-in_err-push_units
returns-in_err-push_units c before are =
    let decls = c.args.decls.now in
    let decl = c.index-decls-number.result in
    let i = c.loop-number.number in
    let lt : i < length decls = omega arith in
    let p = err_from_is_err_and c.from_residual.result c.from_residual.ensures.1 in
    rw (p.1, p.2)
    (stops c.args.table.now (before ++ pairs_from 0 decls) (pairs_from i (drop i decls)) (pairs_of i decl) (pairs_from (i + 1) (drop (i + 1) decls))
    c.loop-number.units c.in_err-push_units.field-0.0 (pairs_next decls i decl lt c.index-decls-number.is)
    c.in_err-push_units.ensures (c.loop-number.invariant before are))
