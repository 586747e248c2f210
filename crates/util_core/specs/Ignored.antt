-- What is read and not kept.
use Rattle.std.specs.Prelude.{Some}
use Rattle.error_fault.specs.Outcome.{Value}
use Rattle.meta_core.specs.Cells.{Cells, no_cells}

-- every meta
abbrev pub ignored_cells : Cells (Unit {0})
ignored_cells = record no_cells { meta = λ it. Some (Value tt) }
