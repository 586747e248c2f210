-- Which attributes are handed on, as an option says it.
use Rattle.std.specs.Prelude.{◌≡◌, [], Some}
use Rattle.error_fault.specs.Outcome.{Value, on_value}
use Rattle.util_core.specs.Cells.{Cells, no_cells}
use Rattle.util_core.specs.Dispatch.{from_list}
use Rattle.util_core.specs.PathLists.{path_list_cells}
use Rattle.options_types.specs.declared.forward_attrs.ForwardAttrsFilter.{ForwardAttrsFilter}
use Rattle.options_types.specs.declared.forward_attrs.ForwardAttrsFilter.TheVariants.{All, Only}

-- no attribute is handed on
abbrev pub ForwardsNone : ForwardAttrsFilter → Type 0
ForwardsNone All = ⊥
ForwardsNone (Only paths) = paths.0 ≡ []

-- a word is for all, and a list for the paths in it
abbrev pub forward_cells : Cells ForwardAttrsFilter
forward_cells =
    record no_cells {
      word = Some (Value All);
      list = λ items. Some (on_value (λ paths. Only (record { 0 = paths })) (from_list path_list_cells items));
    }
