-- The cells of a type, where each value is shown as another.
use Rattle.std.specs.Prelude.{Option, option_map}
use Rattle.error_fault.specs.Outcome.{Outcome, on_value}
use Rattle.meta_nested.specs.Cells.{Cells}

module _ {A B : Type 0} (show : A → B) where
  -- a cell
  abbrev pub shown : Option (Outcome A) → Option (Outcome B)
  shown cell = option_map (on_value show) cell

  -- all cells
  abbrev pub shown_cells : Cells A → Cells B
  shown_cells cells =
      record {
        word = shown cells.word;
        list = λ items. shown (cells.list items);
        string = λ text span. shown (cells.string text span);
        char = λ c. shown (cells.char c);
        bool = λ b. shown (cells.bool b);
        value = λ it. shown (cells.value it);
        expr = λ it. shown (cells.expr it);
        invalid_expr = λ it. shown (cells.invalid_expr it);
        meta = λ it. shown (cells.meta it);
        nested_meta = λ it. shown (cells.nested_meta it);
        none = option_map show cells.none;
      }
