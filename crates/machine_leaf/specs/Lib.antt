pub mod Seen
pub use Rattle.machine_cells.specs.Defaults
pub use Rattle.machine_cells.specs.Leaves
pub use Rattle.machine_cells.specs.Maps as MachineCellsMaps
pub use Rattle.machine_cells.specs.MetaCoreMaps as Maps
pub use Rattle.machine_cells.specs.MetaOverride
pub use Rattle.machine_cells.specs.Override
pub use Rattle.machine_cells.specs.Pairs
pub use Rattle.machine_cells.specs.RowCells
pub use Rattle.machine_cells.specs.Rows
pub use Rattle.machine_cells.specs.Shown
pub use Rattle.machine_cells.specs.Values
pub use Rattle.machine_cells.specs.Wrapped
pub use Rattle.machine_cells.specs.Wrappers
