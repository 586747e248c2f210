use Rattle.std.proofs.Common.{◌+◌, ◌*◌}
use Rattle.machine_rows.proofs.resolve.+row_at.Given as goal

abbrev pub decreases-row_at : goal.decreases-row_at
decreases-row_at g l = 2 * l.level

abbrev pub decreases-row_above : goal.decreases-row_above
decreases-row_above g l = 2 * l.level + 1
