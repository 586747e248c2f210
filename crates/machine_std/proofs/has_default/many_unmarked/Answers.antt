use Rattle.machine_std.proofs.Rests.{no_marks}
use Rattle.machine_std.proofs.has_default.many_unmarked.Goals as goal

pub returns : goal.returns
returns c = no_marks 65536
