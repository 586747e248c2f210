-- What contracts see of what stands beside the state of a run, and of the parts of an element.
use Rattle.std.specs.Prelude.{Option, option_map}
use Rattle.base_core.specs.declared.text.Text.{Text}
use Rattle.machine_value.specs.declared.value.Value.{Value as Datum}
use Rattle.machine_steps.specs.Building.{part_named, part_value}
use Rattle.machine_steps.specs.Elements.{element_of}
use Rattle.machine_steps.specs.Progress.{Aside}
use Rattle.machine_outer.specs.declared.aside.Aside.{Aside as Held}
use Rattle.machine_outer.specs.declared.parts.Parts.{Parts}

abbrev pub aside_of : Held → Aside
aside_of it = record { kept = it.kept; misshapen = it.misshapen; attrs = it.attrs; body = it.body; generics = it.generics }

-- the part that the field of a name takes
abbrev pub part_in : Parts → Text → Option Datum
part_in it name = option_map (part_value it.ident.now (aside_of it.aside.now) (element_of it.element)) (part_named it.forwarded.now name)
