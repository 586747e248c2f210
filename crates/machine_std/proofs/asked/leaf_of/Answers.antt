use Rattle.std.proofs.Common.{◌∙◌, sym}
use Rattle.machine_std.proofs.Erased.{leaf_in-bare}
use Rattle.machine_std.proofs.asked.leaf_of.Goals as goal

pub returns : goal.returns
returns c = c.leaf_in.ensures ∙ sym (leaf_in-bare c.args.decls.now c.args.ty.now)
