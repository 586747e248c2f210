-- What types are read under: a setting, and what the declarations of lower numbers read.
use Rattle.meta_nested.specs.Cells.{Cells}
use Rattle.machine_value.specs.declared.value.Value.{Value as Datum}
use Rattle.machine_rows.specs.declared.row.Row.{Row}
use Rattle.machine_leaf.specs.RowCells.{row_cells}
use Rattle.machine_steps.specs.HostSays.{HostSays}
use Rattle.machine_steps.specs.Setting.{Setting}
use Rattle.machine_steps.specs.Convert.{host_cells}
use Rattle.machine_steps.specs.Reads.{Before, Earlier, metas}
use Rattle.machine_read.specs.declared.scope.Scope.{Scope}
use Rattle.machine_read.specs.declared.setting.Setting.{Setting as Held}

-- the cells of a row
abbrev pub cells_of : Setting → Earlier → Row → Cells Datum
cells_of setting earlier = row_cells earlier (host_cells setting)

-- a setting, by what its host says
abbrev pub setting_in : {H : Type 0} → (H → HostSays) → Held H → Setting
setting_in says it = record { host = says it.host.now; decls = it.decls.now }

-- what is read of items under a scope: under its setting, and by what its declarations read of metas
abbrev pub under : {H D A : Type 0} → (H → HostSays) → (D → Before) → Scope H D → (Setting → Earlier → A) → A
under says before scope read = read (setting_in says scope.setting) (metas (before scope.declared.now))
