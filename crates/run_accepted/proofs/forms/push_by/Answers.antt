use Rattle.std.proofs.Common.{◌≡◌, ◌++◌, OnOk}
use Rattle.options_core.specs.Stages.{option_faults, options_of}
use Rattle.run_accepted.proofs.OutcomeLemmas.{as_read}
use Rattle.run_accepted.proofs.forms.push_by.Goals as goal

pub returns-in-Ok : goal.returns-in-Ok
returns-in-Ok g c =
    let decl = c.args.decl.now in
    let reader = g.O.DeriveOptions.reader c.args.table.now decl in
    (as_read (option_faults reader decl) (options_of reader decl) c.in-Ok.options c.in-Ok.ensures
    (λ options. OnOk c.push_forms.result (c.push_forms.new.places ≡ c.args.places.now ++ g.O.Forms.forms options)) c.push_forms.ensures).1
