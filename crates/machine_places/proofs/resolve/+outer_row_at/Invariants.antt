use Rattle.std.proofs.Common.{◌+◌, ◌*◌}
use Rattle.machine_places.proofs.resolve.+outer_row_at.Given as goal

abbrev pub decreases-outer_row_at : goal.decreases-outer_row_at
decreases-outer_row_at g l = 3 * l.level

abbrev pub decreases-row_above : goal.decreases-row_above
decreases-row_above g l = 3 * l.level + 2

abbrev pub decreases-boxed_row : goal.decreases-boxed_row
decreases-boxed_row g l = 3 * l.level + 1
