-- The conversion of a type of one's own.
use Rattle.std.specs.Prelude.{ℕ, Bool, true, false, Option, Some, None, codes}
use Rattle.std.specs.Str.{bytes_eq}
use Rattle.meta_core.specs.Cells.{Cells, no_cells}
use Rattle.meta_core.specs.Dispatch.{from_value}
use Rattle.meta_core.specs.Nodes.{Lit}
use Rattle.meta_core.specs.Nodes.lit
use Rattle.meta_core.specs.Outcome.{Outcome, Value}
use Rattle.meta_core.specs.Rows.{u8_cells}

-- nothing where the test holds not
abbrev pub where_true : Bool → ℕ → Option (Outcome ℕ)
where_true true level = Some (Value level)
where_true false level = None

-- an integer is read as a `u8`
abbrev pub level_of : Lit → Option (Outcome ℕ)
level_of (lit.Int it) = Some (from_value u8_cells (lit.Int it))
level_of _ = None

-- a word is 1, the string `quiet` is 0, and an integer is itself
abbrev pub verbosity_cells : Cells ℕ
verbosity_cells =
    record no_cells {
      word = Some (Value 1);
      string = λ text span. where_true (bytes_eq text (codes "quiet")) 0;
      value = level_of;
    }
