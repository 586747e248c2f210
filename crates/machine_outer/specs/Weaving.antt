-- What is made of members among which parts are put.
use Rattle.std.specs.Prelude.{List, ◌++◌, Option, reverse}
use Rattle.base_core.specs.declared.text.Text.{Text}
use Rattle.node_core.specs.declared.data.Field.{Field}
use Rattle.machine_value.specs.declared.value.Value.{Value as Datum}
use Rattle.machine_steps.specs.Building.{woven}
use Rattle.machine_outer.specs.declared.woven.Weaving.{Weaving}

-- a member of what is built
abbrev pub Member : Type 0
Member = Text × Datum

-- what stands, and the members that are left with the parts of these fields among them
abbrev pub still_woven : Weaving → (Text → Option Datum) → List Field → List Member
still_woven it part fields = it.done ++ woven part fields (reverse it.left)
