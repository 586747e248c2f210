use Rattle.std.proofs.Common.{[], ◌∙◌}
use Rattle.std.proofs.lemmas.Result.{err_from_is_err_and}
use Rattle.run_accepted.proofs.PairLemmas.{none_yet, rejects_all}
use Rattle.run_accepted.proofs.program.compile.Goals as goal

pub returns-in_err-push_all : goal.returns-in_err-push_all
returns-in_err-push_all c =
    let rules = c.args.table.now in
    let p = err_from_is_err_and c.from_residual.result c.from_residual.ensures.1 in
    rw (p.1, p.2)
    (rejects_all rules c.args.decls.now c.in_err-push_all.field-0.0 (c.in_err-push_all.ensures [] (none_yet rules c.new-units.result c.new-units.ensures)))

pub returns : goal.returns
returns c =
    let are = c.in_ok-push_all.ensures [] (none_yet c.args.table.now c.new-units.result c.new-units.ensures) in
    (are.sound, record { bare = c.in_ok-decls.ensures ∙ c.in_ok-bare.ensures; units = are.made })
