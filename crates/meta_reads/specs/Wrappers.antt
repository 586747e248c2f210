-- Types around a type that is read: the cells of each, by those of the type inside.
use Rattle.std.specs.Prelude.{Option, Some, None, option_map, Result, Ok, Err}
use Rattle.node_core.specs.declared.attr.Meta.{Meta}
use Rattle.error_fault.specs.Outcome.{Outcome, Value, Faults, on_value}
use Rattle.error_core.specs.Answers.{refusal}
use Rattle.error_core.specs.ErrorView.{ErrorView}
use Rattle.meta_nested.specs.Cells.{Cells, no_cells}
use Rattle.meta_nested.specs.Dispatch.{from_list, from_meta, from_none}

-- what is seen of a result that keeps an error: an outcome
abbrev pub outcome_of : {X A : Type 0} → (X → A) → Result X ErrorView → Outcome A
outcome_of seen (Ok x) = Value (seen x)
outcome_of seen (Err error) = refusal error

-- what is seen of a result that keeps a meta
abbrev pub either_of : {X A : Type 0} → (X → A) → Result X Meta → Result A Meta
either_of seen (Ok x) = Ok (seen x)
either_of seen (Err it) = Err it

-- the value, or else the meta that it was not read from
abbrev pub value_or_meta : {A : Type 0} → Meta → Outcome A → Result A Meta
value_or_meta it (Value x) = Ok x
value_or_meta it (Faults fault more) = Err it

module _ {A : Type 0} (cells : Cells A) where
  -- every meta that the type reads; no item is `None`
  abbrev pub option_cells : Cells (Option A)
  option_cells = record no_cells { meta = λ it. Some (on_value Some (from_meta cells it)); none = Some None }

  -- a meta, a list and no item, as the type reads them
  abbrev pub box_cells : Cells A
  box_cells =
      record no_cells {
        meta = λ it. Some (from_meta cells it);
        list = λ items. Some (from_list cells items);
        none = from_none cells;
      }

  -- the same, never failing: the outcome is the value
  abbrev pub result_cells : Cells (Outcome A)
  result_cells =
      record no_cells {
        meta = λ it. Some (Value (from_meta cells it));
        list = λ items. Some (Value (from_list cells items));
        none = option_map Value (from_none cells);
      }

  -- every meta: the type's value, or else the meta itself
  abbrev pub result_meta_cells : Cells (Result A Meta)
  result_meta_cells = record no_cells { meta = λ it. Some (Value (value_or_meta it (from_meta cells it))) }
