use Rattle.machine_forms.proofs.Known.{learns}
use Rattle.machine_forms.proofs.names.learn.Goals as goal

pub returns-clause-known : goal.returns-clause-known
returns-clause-known c = learns c.args.known.now c.insert.new.self c.as_str.result c.args.ident.now c.in_ok-is_new.ensures.updates c.as_str.ensures
