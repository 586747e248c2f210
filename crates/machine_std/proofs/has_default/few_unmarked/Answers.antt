use Rattle.machine_std.proofs.Rests.{no_marks}
use Rattle.machine_std.proofs.has_default.few_unmarked.Goals as goal

pub returns : goal.returns
returns c = no_marks 32
