use Rattle.machine_std.proofs.MarkLemmas.{marked-set}
use Rattle.machine_std.proofs.marks.mark.Goals as goal

pub returns : goal.returns
returns c = λ other. marked-set c.args.words.now c.args.number other c.requires
