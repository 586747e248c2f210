use Rattle.std.proofs.Common.{◌+◌, ◌*◌}
use Rattle.machine_std.proofs.has_default.+rest_of.Given as goal

abbrev pub decreases-rest_of : goal.decreases-rest_of
decreases-rest_of l = 2 * l.level

abbrev pub decreases-rest_of_head : goal.decreases-rest_of_head
decreases-rest_of_head l = 2 * l.level + 1
