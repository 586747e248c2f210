use Rattle.std.proofs.Common.{◌∙◌, sym}
use Rattle.machine_std.proofs.Erased.{is_tag-bare}
use Rattle.machine_std.proofs.std_host.StdHostHost.knows.Goals as goal

pub returns : goal.returns
returns c = c.is_tag.ensures ∙ sym (is_tag-bare c.args.ty.now)
