use Rattle.options_core.specs.Stages.{option_faults, options_of}
use Rattle.run_accepted.proofs.OutcomeLemmas.{as_read}
use Rattle.run_accepted.proofs.unit.unit_by.Goals as goal

pub returns-in_ok-compiled-in-Ok : goal.returns-in_ok-compiled-in-Ok
returns-in_ok-compiled-in-Ok g c =
    let decl = c.args.decl.now in
    let reader = g.O.DeriveOptions.reader c.args.table.now decl in
    as_read (option_faults reader decl) (options_of reader decl) c.in-Ok.options c.in-Ok.ensures
    (λ options. g.O.DeriveOptions.IsUnit options c.args.number c.in_ok-compiled-in-Ok.field-0) c.in_ok-compiled-in-Ok.ensures
