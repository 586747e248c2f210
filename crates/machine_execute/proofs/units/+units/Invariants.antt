use Rattle.machine_execute.proofs.units.+units.Given as goal

abbrev pub decreases-read_declared : goal.decreases-read_declared
decreases-read_declared g l = l.room
