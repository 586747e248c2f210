use Rattle.std.proofs.Common.{◌∙◌, sym}
use Rattle.machine_std.proofs.Erased.{is_function-bare}
use Rattle.machine_std.proofs.asked.is_function.Goals as goal

pub returns : goal.returns
returns c = c.is_path.ensures ∙ sym (is_function-bare c.args.name.now c.args.call)
