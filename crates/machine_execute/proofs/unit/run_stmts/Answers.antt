use Rattle.std.proofs.Common.{◌∙◌, ap}
use Rattle.std.specs.Option.{option_copied}
use Rattle.machine_read.specs.Asked.{asked_of}
use Rattle.machine_read.specs.Made.{named_type}
use Rattle.machine_run.proofs.Reading.{ran}
use Rattle.machine_execute.specs.Units.{setting_at}
use Rattle.machine_execute.proofs.unit.run_stmts.Goals as goal

pub returns : goal.returns
returns g c =
    let setting = setting_at g.H.Host.says c.args.context.now in
    let before = g.D.Declared.earlier c.args.earlier.now in
    ran setting before c.run_for.result c.args.unit.now (asked_of c.args.asked) c.args.stmts.now c.in_ok-ty.ty (option_copied c.get.result)
    (c.in_ok-ty.ensures ∙ ap named_type c.as_str.ensures) c.get.ensures c.run_for.ensures
