pub mod Values
pub mod Texts
pub mod Maps
pub mod Leaves
pub mod Wrapped
pub mod RowCells
pub mod Defaults
pub mod Laws
pub use Rattle.util_core.specs.Call
pub use Rattle.util_core.specs.Cells
pub use Rattle.util_core.specs.Integers
pub use Rattle.util_core.specs.Keys
pub use Rattle.util_core.specs.Lists
pub use Rattle.util_core.specs.Maps as MetaCoreMaps
pub use Rattle.util_core.specs.NestedMeta
pub use Rattle.util_core.specs.Override as MetaOverride
pub use Rattle.util_core.specs.Pairs
pub use Rattle.util_core.specs.Rows
pub use Rattle.util_core.specs.Sets
pub use Rattle.util_core.specs.Shown
pub use Rattle.util_core.specs.Wrappers
pub use Rattle.util_core.specs.declared.over_ride.Override
